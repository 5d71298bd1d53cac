use Rattle.std.proofs.Common.{rules}
use Rattle.std.specs.Ordering.{nat_cmp}
use Rattle.std.proofs.lemmas.List.Sorted.{answers_always}
use Rattle.zr_lists.proofs.Places.{found_place}
use Rattle.zr_lists.proofs.Order.{nat_order}
use Rattle.zr_local.specs.Interests.{interest_id}
use Rattle.zr_local.proofs.interest.place_of.Goals as goal

pub returns : goal.returns
returns c =
    found_place nat_cmp interest_id nat_order c.args.items.now c.args.id _ c.requires c.binary_search_by_key.ensures.bound
    (c.binary_search_by_key.ensures.position (λ i. i.id) (answers_always _ _ _ (λ f a r g called. search rules)))
