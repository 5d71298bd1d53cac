use Rattle.zr_law_rounds.proofs.Parts as law
use Rattle.zr_law_rounds.proofs.turn_tells.Goals as goal

pub returns : goal.returns
returns c = law.turn_tells
