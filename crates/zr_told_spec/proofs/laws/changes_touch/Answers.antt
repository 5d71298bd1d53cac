use Rattle.zr_told_spec.proofs.Touching.{changes_touch}
use Rattle.zr_told_spec.proofs.laws.changes_touch.Goals as goal

pub returns : goal.returns
returns c = changes_touch
