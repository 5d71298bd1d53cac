use Rattle.zr_orders.proofs.Bag as law
use Rattle.zr_orders.proofs.one_order.Goals as goal

pub returns : goal.returns
returns g c = law.orders_are_one g.row.X.Denot
