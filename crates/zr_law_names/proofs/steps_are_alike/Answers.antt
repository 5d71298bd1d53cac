use Rattle.zr_law_names.proofs.Alike as law
use Rattle.zr_law_names.proofs.steps_are_alike.Goals as goal

pub returns : goal.returns
returns c = law.steps_are_alike
