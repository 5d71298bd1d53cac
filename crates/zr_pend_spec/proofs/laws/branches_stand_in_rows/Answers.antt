use Rattle.zr_pend_spec.proofs.Readings.{in_row}
use Rattle.zr_pend_spec.proofs.laws.branches_stand_in_rows.Goals as goal

pub returns : goal.returns
returns c = in_row
