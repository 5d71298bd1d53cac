use Rattle.zr_law_rounds.proofs.Beginning as law
use Rattle.zr_law_rounds.proofs.start_goes.Goals as goal

pub returns : goal.returns
returns c = law.start_goes
