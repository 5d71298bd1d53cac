use Rattle.zr_orders.proofs.Ranked as law
use Rattle.zr_orders.proofs.sorted_alike.Goals as goal

pub returns : goal.returns
returns g c = law.sorted_alike g.row.X.Denot
