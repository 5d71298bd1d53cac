use Rattle.zr_law_declared.proofs.Logged as law
use Rattle.zr_law_declared.proofs.logs_are_made.Goals as goal

pub returns : goal.returns
returns c = law.logs_are_made
