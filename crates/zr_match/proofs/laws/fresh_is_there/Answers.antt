use Rattle.zr_match.proofs.Fresh.{fresh_there}
use Rattle.zr_match.proofs.laws.fresh_is_there.Goals as goal

pub returns : goal.returns
returns c = fresh_there
