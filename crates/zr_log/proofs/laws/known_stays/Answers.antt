use Rattle.zr_log.proofs.Changes.{stays}
use Rattle.zr_log.proofs.laws.known_stays.Goals as goal

pub returns : goal.returns
returns c = stays
