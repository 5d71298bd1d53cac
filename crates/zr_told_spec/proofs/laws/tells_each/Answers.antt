use Rattle.zr_told_spec.proofs.Hubs.{tells_each}
use Rattle.zr_told_spec.proofs.laws.tells_each.Goals as goal

pub returns : goal.returns
returns c = tells_each
