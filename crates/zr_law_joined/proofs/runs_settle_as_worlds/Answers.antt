use Rattle.zr_law_joined.proofs.Laws as law
use Rattle.zr_law_joined.proofs.runs_settle_as_worlds.Goals as goal

pub returns : goal.returns
returns c = law.runs_settle_as_worlds
