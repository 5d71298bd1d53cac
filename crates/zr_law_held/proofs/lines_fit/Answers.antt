use Rattle.zr_law_held.proofs.Lines as law
use Rattle.zr_law_held.proofs.lines_fit.Goals as goal

pub returns : goal.returns
returns c = law.lines_fit
