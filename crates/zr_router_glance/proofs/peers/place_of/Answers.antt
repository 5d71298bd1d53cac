use Rattle.std.proofs.Common.{rules}
use Rattle.std.specs.Cmp.Lexicographic.{slice_cmp}
use Rattle.std.specs.Ordering.{nat_cmp}
use Rattle.std.proofs.lemmas.List.Sorted.{answers_always}
use Rattle.zr_lists.proofs.Places.{found_place}
use Rattle.zr_lists.proofs.Order.{name_order}
use Rattle.zr_router_glance.proofs.InOrder.{id_of}
use Rattle.zr_router_glance.proofs.peers.place_of.Goals as goal

pub returns : goal.returns
returns c =
    found_place (slice_cmp nat_cmp) id_of name_order c.args.peers.now c.args.id.now _ c.requires c.binary_search_by_key.ensures.bound
    (c.binary_search_by_key.ensures.position (λ p. p.id) (answers_always _ _ _ (λ f a r g called. search rules)))
