use Rattle.zr_law_numbers.proofs.EveryWorld as law
use Rattle.zr_law_numbers.proofs.steps_are_possible.Goals as goal

pub returns : goal.returns
returns c = law.steps_go
