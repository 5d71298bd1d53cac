use Rattle.zr_ext.proofs.Written.{chain_spelled, chain_again}
use Rattle.zr_ext.proofs.laws.written_chains_are_read.Goals as goal

pub returns : goal.returns
returns c = record { spelled = chain_spelled; again = chain_again }
