use Rattle.std.specs.Ordering.{nat_cmp}
use Rattle.zr_lists.specs.Place.{IsAt}
use Rattle.zr_lists.proofs.Puts.{ascending_without, removed_at}
use Rattle.zr_lists.proofs.Order.{nat_order}
use Rattle.zr_local.specs.Clients.{client_link}
use Rattle.zr_local.proofs.clients.Clients.leave.Goals as goal

pub invariant_of-self : goal.invariant_of-self
invariant_of-self c =
    let at : IsAt nat_cmp client_link c.self.inside.items.items c.args.link.0 c.in-Ok.at = rw (← c.deref.ensures.value) c.in-Ok.ensures in
    rw (c.remove.ensures.items, removed_at nat_cmp client_link nat_order c.self.inside.items.items c.args.link.0 c.in-Ok.at at)
    (ascending_without nat_cmp client_link nat_order c.self.inside.items.items c.args.link.0 c.self.invariant)
