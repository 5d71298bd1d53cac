use Rattle.zr_law_declared.proofs.Phases as law
use Rattle.zr_law_declared.proofs.phases_change_nothing.Goals as goal

pub returns : goal.returns
returns c = law.phases_change_nothing
