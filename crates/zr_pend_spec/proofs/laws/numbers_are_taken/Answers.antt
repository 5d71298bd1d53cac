use Rattle.zr_pend_spec.proofs.Sound.{begun_taken}
use Rattle.zr_pend_spec.proofs.laws.numbers_are_taken.Goals as goal

pub returns : goal.returns
returns c = begun_taken
