use Rattle.zr_pend_spec.proofs.ReadingsOfDrop.{dropped_is}
use Rattle.zr_pend_spec.proofs.laws.dropped_rows_are_read.Goals as goal

pub returns : goal.returns
returns c = dropped_is
