use Rattle.zr_law_declared.proofs.AtRest as law
use Rattle.zr_law_declared.proofs.settled_rows_are_declared.Goals as goal

pub returns : goal.returns
returns c = law.rows_are_declared
