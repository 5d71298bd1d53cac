use Rattle.zr_law_rounds.proofs.Telling as law
use Rattle.zr_law_rounds.proofs.rounds_tell.Goals as goal

pub returns : goal.returns
returns c = law.rounds_tell
