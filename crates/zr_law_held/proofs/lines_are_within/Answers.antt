use Rattle.zr_law_held.proofs.Words as law
use Rattle.zr_law_held.proofs.lines_are_within.Goals as goal

pub returns : goal.returns
returns c = law.lines_are_within
