use Rattle.zr_law_rounds.proofs.Beginning as law
use Rattle.zr_law_rounds.proofs.all_have_begun.Goals as goal

pub returns : goal.returns
returns c = law.all_have_begun
