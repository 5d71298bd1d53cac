use Rattle.zr_told_spec.proofs.Events.{interests_keep}
use Rattle.zr_told_spec.proofs.laws.interests_keep.Goals as goal

pub returns : goal.returns
returns c = interests_keep
