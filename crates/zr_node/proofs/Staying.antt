-- What a router's list of links keeps: that it ascends, and that there are few.
use Rattle.std.proofs.Common.{◌≡◌, ℕ, ◌+◌, ◌<◌, ◌^◌, not, List, ◌∷◌, length, take, drop, length-append, length-drop, length-take-le, Result, Ok, Err, OnOk, OnErr, sym, subst, ◌∙◌, arith}
use Rattle.std.specs.List.{insert}
use Rattle.std.specs.Ordering.{nat_cmp}
use Rattle.zr_id.specs.declared.link.LinkNo.{LinkNo}
use Rattle.zr_msg.specs.Peer.{PeerState}
use Rattle.zr_node_spec.specs.Event.{AreLinks, IsFresh}
use Rattle.zr_msg.specs.declared.peer.LinkPeer.{LinkPeer}
use Rattle.zr_node_spec.specs.Tables.{AreNumbered, is_link}
use Rattle.zr_node_spec.specs.State.{NodeState, new_link}
use Rattle.zr_node_spec.specs.Table.{with_link, without_link}
use Rattle.zr_node_spec.proofs.AreLinks.{ascending_up, ascending_down, are_links_up}
use Rattle.zr_lists.specs.Place.{IsGap}
use Rattle.zr_lists.proofs.Puts.{put_in}
use Rattle.zr_lists.proofs.Filters.{filter_shorter}
use Rattle.zr_lists.proofs.Order.{nat_order}
use Rattle.zr_node.proofs.Places.{number_of, put_is}

abbrev pub IsKept : List LinkPeer → Type 0
IsKept links = AreNumbered links × (length links < 2 ^ 32)

pub kept_down : (links : List LinkPeer) (n : ℕ) → IsKept links → IsKept (without_link links n)
kept_down links n h =
    let shorter = filter_shorter (λ l. not (is_link n l)) links in
    (ascending_down links n h.0, omega (arith, h.1))

pub kept_up : (links : List LinkPeer) (l : LinkPeer) (i : ℕ) → IsKept links → IsGap nat_cmp number_of links l.link.0 i → length links < 4294967295 → IsKept (insert links i l) × (insert links i l ≡ with_link links l)
kept_up links l i h gap few =
    let same : insert links i l ≡ with_link links l = put_in nat_cmp number_of nat_order links l i gap ∙ put_is links l in
    let within = gap.within in
    let long : length (insert links i l) ≡ length links + 1 = length-append (take i links) (l ∷ drop i links) ∙ omega (arith, length-take-le i links within, length-drop i links) in
    ((subst (λ ls. AreNumbered ls) (sym same) (ascending_up links l h.0), omega arith), same)

pub are_links_after : {T E : Type 0} (r : Result T E) (node : NodeState) (link : LinkNo) (peer : PeerState) (new : List LinkPeer) → IsFresh node link peer → AreLinks node.base.me node.links
    → OnOk r (new ≡ with_link node.links (new_link link peer)) → OnErr r (new ≡ node.links) → AreLinks node.base.me new
are_links_after (Ok x) node link peer new fresh h e f = subst (λ ls. AreLinks node.base.me ls) (sym e) (are_links_up node link peer fresh h)
are_links_after (Err x) node link peer new fresh h e f = subst (λ ls. AreLinks node.base.me ls) (sym f) h
