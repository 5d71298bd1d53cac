use Rattle.zr_told_spec.proofs.Hubs.{noted_is_live}
use Rattle.zr_told_spec.proofs.laws.noted_is_live.Goals as goal

pub returns : goal.returns
returns c = noted_is_live
