use Rattle.std.proofs.Common.{◌≡◌, ◌<◌, List, length, ap, subst, OnOk, OnErr, arith}
use Rattle.std.specs.Ordering.{nat_cmp}
use Rattle.zr_node_spec.specs.State.{new_link}
use Rattle.zr_node_spec.specs.Table.{with_link}
use Rattle.zr_msg.specs.declared.peer.LinkPeer.{LinkPeer}
use Rattle.zr_lists.specs.Place.{IsGap}
use Rattle.zr_node.proofs.Places.{number_of}
use Rattle.zr_node.proofs.Hints.{kept_put, put_there, left_there}
use Rattle.zr_node.proofs.links.Links.add.Goals as goal

pub put-requires : goal.put-requires
put-requires c =
    let items : List LinkPeer = c.self.inside.all.items in
    let gap : IsGap nat_cmp number_of items c.args.number.0 c.gap_of-at.result = rw c.as_slice.ensures.value at c.gap_of-at.ensures in
    gap.within

pub invariant_of-self : goal.invariant_of-self
invariant_of-self c =
    let items : List LinkPeer = c.self.inside.all.items in
    let gap : IsGap nat_cmp number_of items c.args.number.0 c.gap_of-at.result = rw c.as_slice.ensures.value at c.gap_of-at.ensures in
    let few : length items < 4294967295 = omega (arith, c.if-len-ge-MOST_LINKS.false, c.len.ensures, c.as_slice.ensures.len, ap length c.as_slice.ensures.value) in
    kept_put c.self.inside.numbers c.put.new.numbers items c.put.new.links.items (new_link c.args.number c.args.peer) c.gap_of-at.result gap few c.self.invariant c.put.result c.put.ensures.ok c.put.ensures.err

pub returns-clause-ok : goal.returns-clause-ok
returns-clause-ok c =
    let items : List LinkPeer = c.self.inside.all.items in
    let gap : IsGap nat_cmp number_of items c.args.number.0 c.gap_of-at.result = rw c.as_slice.ensures.value at c.gap_of-at.ensures in
    let few : length items < 4294967295 = omega (arith, c.if-len-ge-MOST_LINKS.false, c.len.ensures, c.as_slice.ensures.len, ap length c.as_slice.ensures.value) in
    subst (λ (ls : List LinkPeer). OnOk c.put.result (c.put.new.links.items ≡ with_link ls (new_link c.args.number c.args.peer))) c.self.view_is
    (put_there c.self.inside.numbers c.put.new.numbers items c.put.new.links.items (new_link c.args.number c.args.peer) c.gap_of-at.result gap few c.self.invariant c.put.result c.put.ensures.ok)

pub returns-clause-err : goal.returns-clause-err
returns-clause-err c =
    subst (λ (ls : List LinkPeer). OnErr c.put.result (c.put.new.links.items ≡ ls)) c.self.view_is
    (left_there c.self.inside.numbers c.put.new.numbers c.self.inside.all.items c.put.new.links.items (new_link c.args.number c.args.peer) c.gap_of-at.result c.put.result c.put.ensures.err)
