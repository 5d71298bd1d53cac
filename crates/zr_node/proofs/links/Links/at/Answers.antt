use Rattle.std.proofs.Common.{◌≡◌, List, Some, None, get_or, sym, ap}
use Rattle.std.specs.Ordering.{nat_cmp}
use Rattle.zr_node_spec.specs.Tables.{link_at}
use Rattle.zr_msg.specs.declared.peer.LinkPeer.{LinkPeer}
use Rattle.zr_lists.specs.Place.{IsAt, IsGap}
use Rattle.zr_node.proofs.Places.{number_of, found_here, none_here}
use Rattle.zr_node.proofs.links.Links.at.Goals as goal

pub returns-in-Ok : goal.returns-in-Ok
returns-in-Ok c =
    let items : List LinkPeer = c.self.inside.all.items in
    let at : IsAt nat_cmp number_of items c.args.number.0 c.in-Ok.at = rw c.as_slice.ensures.value at c.in-Ok.ensures in
    let found : link_at items c.args.number.0 ≡ Some (get_or items c.in-Ok.at c.index.result.now) = found_here items c.args.number.0 c.in-Ok.at c.index.result.now at in
    rw (← c.self.view_is, found) (ap (λ (l : LinkPeer). Some l) c.index.ensures)

pub returns-in-Err : goal.returns-in-Err
returns-in-Err c =
    let items : List LinkPeer = c.self.inside.all.items in
    let gap : IsGap nat_cmp number_of items c.args.number.0 c.in-Err.field-0 = rw c.as_slice.ensures.value at c.in-Err.ensures in
    let none : link_at items c.args.number.0 ≡ None = none_here items c.args.number.0 c.in-Err.field-0 gap in
    rw (← c.self.view_is) (sym none)
