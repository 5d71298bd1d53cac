use Rattle.zr_law_names.proofs.Names as law
use Rattle.zr_law_names.proofs.names_change_nothing.Goals as goal

pub returns : goal.returns
returns c = law.names_change_nothing
