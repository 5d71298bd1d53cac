use Rattle.zr_token.proofs.Alive.{alive_is_of_pairs}
use Rattle.zr_token.proofs.laws.alive_is_of_pairs.Goals as goal

pub returns : goal.returns
returns c = alive_is_of_pairs
