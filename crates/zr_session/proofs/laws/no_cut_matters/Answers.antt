use Rattle.zr_session.proofs.Calls.{no_cut}
use Rattle.zr_session.proofs.laws.no_cut_matters.Goals as goal

pub returns : goal.returns
returns c = no_cut
