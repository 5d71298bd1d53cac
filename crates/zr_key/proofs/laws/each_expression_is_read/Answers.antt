use Rattle.zr_key.proofs.Reading.{reads_each}
use Rattle.zr_key.proofs.laws.each_expression_is_read.Goals as goal

pub returns : goal.returns
returns c = reads_each
