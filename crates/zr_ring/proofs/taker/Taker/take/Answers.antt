use Rattle.std.proofs.Common.{rules}
use Rattle.zr_ring.proofs.Items.{takes_end}
use Rattle.zr_ring.proofs.taker.Taker.take.Goals as goal

pub returns-clause-tells : goal.returns-clause-tells
returns-clause-tells g c = takes_end _ _ c.in-Some-Last.field-0-0 _ (search rules) (search rules) (search rules) (search rules)
