use Rattle.zr_pend_spec.proofs.Dropped.{in_order}
use Rattle.zr_pend_spec.proofs.laws.ascending_numbers_ascend.Goals as goal

pub returns : goal.returns
returns c = in_order
