use Rattle.zr_pend_spec.proofs.OneRow.{of_one_row}
use Rattle.zr_pend_spec.proofs.laws.branches_are_of_one_row.Goals as goal

pub returns : goal.returns
returns c = of_one_row
