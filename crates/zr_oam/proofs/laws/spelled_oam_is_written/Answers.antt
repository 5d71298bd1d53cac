use Rattle.zr_oam.proofs.Fitting.{spelled_holds}
use Rattle.zr_oam.proofs.laws.spelled_oam_is_written.Goals as goal

pub returns : goal.returns
returns c = spelled_holds
