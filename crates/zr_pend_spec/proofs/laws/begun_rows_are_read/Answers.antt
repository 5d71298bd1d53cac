use Rattle.zr_pend_spec.proofs.Readings.{begun_is}
use Rattle.zr_pend_spec.proofs.laws.begun_rows_are_read.Goals as goal

pub returns : goal.returns
returns c = begun_is
