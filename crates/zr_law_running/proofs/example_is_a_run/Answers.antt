use Rattle.zr_law_running.proofs.Example as law
use Rattle.zr_law_running.proofs.example_is_a_run.Goals as goal

pub returns : goal.returns
returns c = law.example_is_a_run
