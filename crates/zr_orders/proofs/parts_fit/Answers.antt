use Rattle.zr_orders.proofs.Bag as law
use Rattle.zr_orders.proofs.parts_fit.Goals as goal

pub returns : goal.returns
returns g c = law.parts_fit g.row.X.Denot
