use Rattle.zr_told_spec.proofs.Events.{nothing_is_told}
use Rattle.zr_told_spec.proofs.laws.nothing_is_told.Goals as goal

pub returns : goal.returns
returns c = nothing_is_told
