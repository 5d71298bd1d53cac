use Rattle.std.proofs.Common.{rules}
use Rattle.std.specs.Ordering.{nat_cmp}
use Rattle.std.proofs.lemmas.List.Sorted.{answers_always}
use Rattle.zr_lists.proofs.Order.{nat_order}
use Rattle.zr_lists.proofs.Places.{found_place}
use Rattle.zr_node.proofs.Places.{number_of, by_number}
use Rattle.zr_node.proofs.links.place_of.Goals as goal

pub returns : goal.returns
returns c =
    found_place nat_cmp number_of nat_order c.args.links.now c.args.number.0 _ (by_number c.args.links.now c.requires) c.binary_search_by_key.ensures.bound
    (c.binary_search_by_key.ensures.position (λ l. l.link.0) (answers_always _ _ _ (λ f a r g called. search rules)))
