use Rattle.zr_told_spec.proofs.Events.{changes_keep}
use Rattle.zr_told_spec.proofs.laws.changes_keep.Goals as goal

pub returns : goal.returns
returns c = changes_keep
