use Rattle.zr_log.proofs.Changes.{known_set}
use Rattle.zr_log.proofs.laws.known_are_sets.Goals as goal

pub returns : goal.returns
returns c = known_set
