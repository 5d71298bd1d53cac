use Rattle.zr_pend_spec.proofs.Free.{free_is_least}
use Rattle.zr_pend_spec.proofs.laws.numbers_are_least.Goals as goal

pub returns : goal.returns
returns c = λ rows link. free_is_least link rows
