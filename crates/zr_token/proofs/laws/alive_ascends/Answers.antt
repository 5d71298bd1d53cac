use Rattle.zr_token.proofs.Alive.{alive_ascends}
use Rattle.zr_token.proofs.laws.alive_ascends.Goals as goal

pub returns : goal.returns
returns c = alive_ascends
