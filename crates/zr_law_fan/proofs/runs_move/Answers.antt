use Rattle.zr_law_fan.proofs.Running as law
use Rattle.zr_law_fan.proofs.runs_move.Goals as goal

pub returns : goal.returns
returns c = law.runs_move
