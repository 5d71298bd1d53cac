use Rattle.zr_law_told.proofs.AtRest as law
use Rattle.zr_law_told.proofs.clients_are_told.Goals as goal

pub returns : goal.returns
returns c = law.clients_are_told
