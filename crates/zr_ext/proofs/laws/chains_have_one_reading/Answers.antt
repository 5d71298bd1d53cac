use Rattle.zr_ext.proofs.Many.{one_chain}
use Rattle.zr_ext.proofs.laws.chains_have_one_reading.Goals as goal

pub returns : goal.returns
returns c known = one_chain known
