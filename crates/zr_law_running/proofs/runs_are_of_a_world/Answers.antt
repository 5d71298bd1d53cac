use Rattle.zr_law_running.proofs.Running as law
use Rattle.zr_law_running.proofs.runs_are_of_a_world.Goals as goal

pub returns : goal.returns
returns c = law.runs_are_of_a_world
