use Rattle.zr_log.proofs.Changes.{grows}
use Rattle.zr_log.proofs.laws.known_grows.Goals as goal

pub returns : goal.returns
returns c = grows
