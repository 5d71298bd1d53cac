use Rattle.zr_told_spec.proofs.Hubs.{start_agrees}
use Rattle.zr_told_spec.proofs.laws.start_agrees.Goals as goal

pub returns : goal.returns
returns c = start_agrees
