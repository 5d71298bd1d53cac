use Rattle.zr_decl.proofs.Fitting.{read_interested}
use Rattle.zr_decl.proofs.interest.read_interest.Goals as goal

pub returns-clause-fits : goal.returns-clause-fits
returns-clause-fits c = read_interested _ _ _ _ c.in_ok-msg.msg c.in_ok-msg.ensures
