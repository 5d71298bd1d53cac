-- Those so far stand in order, and the others are still to be put.
use Rattle.std.proofs.Common.{◌≡◌, drop}
use Rattle.std.specs.Cmp.Lexicographic.{slice_cmp}
use Rattle.std.specs.Ordering.{nat_cmp}
use Rattle.zr_lists.specs.Ascending.{IsAscending}
use Rattle.zr_router_glance.specs.Glance.{peers_from, peers_of}
use Rattle.zr_router_glance.proofs.peers.peers_of.Given as goal

abbrev pub invariant-loop-link : goal.invariant-loop-link
invariant-loop-link l = record {
  in_order : IsAscending (slice_cmp nat_cmp) (λ p. p.id) l.peers.items;
  put : peers_from l.peers.items (drop l.link-index l.links) ≡ peers_of l.links;
}
