use Rattle.zr_law_declared.proofs.Logged as law
use Rattle.zr_law_declared.proofs.settled_logs_are_known.Goals as goal

pub returns : goal.returns
returns c = law.logs_are_known
