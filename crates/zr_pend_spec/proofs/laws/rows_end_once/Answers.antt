use Rattle.zr_pend_spec.proofs.OneRow.{row_ends}
use Rattle.zr_pend_spec.proofs.laws.rows_end_once.Goals as goal

pub returns : goal.returns
returns c = row_ends
