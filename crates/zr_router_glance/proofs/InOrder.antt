-- Peers in ascending order of their identifiers, as lists that ascend by a key.
use Rattle.std.proofs.Common.{◌≡◌, ℕ, List, [], set}
use Rattle.std.specs.List.Sorted.{IsStrictlySortedBy}
use Rattle.std.specs.Cmp.Lexicographic.{slice_cmp}
use Rattle.std.specs.Ordering.{nat_cmp}
use Rattle.zr_lists.specs.Ascending.{IsAscending}
use Rattle.zr_lists.specs.Place.{IsAt}
use Rattle.zr_lists.proofs.Order.{name_order}
use Rattle.zr_lists.proofs.Puts.{ascending_put, put_at}
use Rattle.zr_msg.specs.Peer.{PeerState}
use Rattle.zr_router_glance.specs.Glance.{with_peer}

abbrev pub id_of : PeerState → List ℕ
id_of p = p.id

-- one that is put at its identifier's place takes the place of the one there
pub put_there : (ps : List PeerState) (p : PeerState) (i : ℕ) → IsAt (slice_cmp nat_cmp) id_of ps p.id i → set ps i p ≡ with_peer ps p
put_there ps p i h = put_at (slice_cmp nat_cmp) id_of name_order ps p i h

pub still_ascends : (ps : List PeerState) (p : PeerState) → IsAscending (slice_cmp nat_cmp) id_of ps → IsAscending (slice_cmp nat_cmp) id_of (with_peer ps p)
still_ascends ps p h = ascending_put (slice_cmp nat_cmp) id_of name_order ps p h

pub none_ascends : IsAscending (slice_cmp nat_cmp) id_of []
unfolding IsStrictlySortedBy
none_ascends = tt
