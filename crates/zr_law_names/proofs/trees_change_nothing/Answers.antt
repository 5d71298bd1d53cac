use Rattle.zr_law_names.proofs.Trees as law
use Rattle.zr_law_names.proofs.trees_change_nothing.Goals as goal

pub returns : goal.returns
returns c = law.trees_change_nothing
