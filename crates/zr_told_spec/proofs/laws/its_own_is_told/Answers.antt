use Rattle.zr_told_spec.proofs.Own.{its_own_is_told}
use Rattle.zr_told_spec.proofs.laws.its_own_is_told.Goals as goal

pub returns : goal.returns
returns c = its_own_is_told
