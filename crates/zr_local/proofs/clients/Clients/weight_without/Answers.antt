use Rattle.std.proofs.Common.{◌+◌, ◌≤◌, List, sym, ap, arith}
use Rattle.std.specs.Ordering.{nat_cmp}
use Rattle.zr_lists.specs.Place.{IsAt, IsGap}
use Rattle.zr_local.specs.Clients.{client_link, clients_weight}
use Rattle.zr_local.specs.declared.interest.ClientInterests.{ClientInterests}
use Rattle.zr_local.proofs.Live.{client_apart}
use Rattle.zr_local.proofs.clients.Clients.weight_without.Goals as goal

pub weight_without-requires : goal.weight_without-requires
weight_without-requires c =
    let at : IsAt nat_cmp client_link c.self.inside.items.items c.args.link.0 c.in-Ok.at = rw (← c.deref.ensures.value) c.in-Ok.ensures in
    let all : clients_weight c.self.inside.items.items ≤ c.args.held = rw c.self.view_is c.requires in
    omega (arith, all, client_apart c.self.inside.items.items c.args.link.0 c.in-Ok.at c.index.result.now at c.index.ensures)

pub returns-in-Ok : goal.returns-in-Ok
returns-in-Ok c =
    let at : IsAt nat_cmp client_link c.self.inside.items.items c.args.link.0 c.in-Ok.at = rw (← c.deref.ensures.value) c.in-Ok.ensures in
    let all : clients_weight c.self.inside.items.items ≤ c.args.held = rw c.self.view_is c.requires in
    rw (← c.self.view_is) (omega (arith, all, c.weight_without.ensures, client_apart c.self.inside.items.items c.args.link.0 c.in-Ok.at c.index.result.now at c.index.ensures))

pub returns-in-Err : goal.returns-in-Err
returns-in-Err c =
    let gap : IsGap nat_cmp client_link c.self.inside.items.items c.args.link.0 c.in-Err.field-0 = rw (← c.deref.ensures.value) c.in-Err.ensures in
    rw (← c.self.view_is) (ap (λ (cs : List ClientInterests). c.args.held + clients_weight cs) (sym gap.others))
