use Rattle.zr_local.proofs.Live.{by_link_none}
use Rattle.zr_local.proofs.clients.Clients.new.Goals as goal

pub invariant_of-result : goal.invariant_of-result
invariant_of-result c = rw c.new.ensures.items by_link_none
