use Rattle.zr_law_names.proofs.Alike as law
use Rattle.zr_law_names.proofs.events_are_as_themselves.Goals as goal

pub returns : goal.returns
returns c = law.events_are_as_themselves
