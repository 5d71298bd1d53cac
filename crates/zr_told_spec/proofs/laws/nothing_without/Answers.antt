use Rattle.zr_told_spec.proofs.Hubs.{nothing_without}
use Rattle.zr_told_spec.proofs.laws.nothing_without.Goals as goal

pub returns : goal.returns
returns c = nothing_without
