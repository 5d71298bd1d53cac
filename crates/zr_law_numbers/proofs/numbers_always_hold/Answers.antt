use Rattle.zr_law_numbers.proofs.Numbers as law
use Rattle.zr_law_numbers.proofs.numbers_always_hold.Goals as goal

pub returns : goal.returns
returns c = law.numbers_always_hold
