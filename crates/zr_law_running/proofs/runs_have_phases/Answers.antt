use Rattle.zr_law_running.proofs.Phases as law
use Rattle.zr_law_running.proofs.runs_have_phases.Goals as goal

pub returns : goal.returns
returns c = law.runs_have_phases
