use Rattle.zr_law_held.proofs.Acts as law
use Rattle.zr_law_held.proofs.replies_weigh.Goals as goal

pub returns : goal.returns
returns c = law.replies_weigh
