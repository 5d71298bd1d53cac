use Rattle.std.specs.Ordering.{nat_cmp}
use Rattle.zr_lists.specs.Place.{IsAt}
use Rattle.zr_local.specs.Clients.{client_link}
use Rattle.zr_local.proofs.Live.{one_weighs}
use Rattle.zr_local.proofs.clients.Clients.weight_of.Goals as goal

pub returns-in-Ok : goal.returns-in-Ok
returns-in-Ok c =
    let at : IsAt nat_cmp client_link c.self.inside.items.items c.args.link.0 c.in-Ok.at = rw (← c.deref.ensures.value) c.in-Ok.ensures in
    rw (← c.self.view_is)
    (one_weighs c.self.inside.items.items c.args.link c.args.id c.in-Ok.at c.weight_of.result c.index.result.now at c.index.ensures c.weight_of.ensures)
