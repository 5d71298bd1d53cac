use Rattle.zr_law_told.proofs.AtRest as law
use Rattle.zr_law_told.proofs.lines_tell_clients.Goals as goal

pub returns : goal.returns
returns c = law.lines_tell_clients
