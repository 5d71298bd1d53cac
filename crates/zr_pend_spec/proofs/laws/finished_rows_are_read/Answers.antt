use Rattle.zr_pend_spec.proofs.Readings.{finished_is}
use Rattle.zr_pend_spec.proofs.laws.finished_rows_are_read.Goals as goal

pub returns : goal.returns
returns c = finished_is
