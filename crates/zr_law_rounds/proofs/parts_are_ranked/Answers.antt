use Rattle.zr_law_rounds.proofs.Ordered as law
use Rattle.zr_law_rounds.proofs.parts_are_ranked.Goals as goal

pub returns : goal.returns
returns c = law.parts_are_ranked
