use Rattle.zr_orders.proofs.Ranked as law
use Rattle.zr_orders.proofs.sort_is_ranked.Goals as goal

pub returns : goal.returns
returns c = law.sort_is_ranked
