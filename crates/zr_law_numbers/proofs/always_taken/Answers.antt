use Rattle.zr_law_numbers.proofs.EveryWorld as law
use Rattle.zr_law_numbers.proofs.always_taken.Goals as goal

pub returns : goal.returns
returns c = law.always_go
