use Rattle.zr_law_joined.proofs.Laws as law
use Rattle.zr_law_joined.proofs.settled_runs_have_phases.Goals as goal

pub returns : goal.returns
returns c = law.settled_runs_have_phases
