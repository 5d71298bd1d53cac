use Rattle.std.proofs.Common.{rules}
use Rattle.std.specs.Ordering.{nat_cmp}
use Rattle.std.proofs.lemmas.List.Sorted.{answers_always}
use Rattle.zr_lists.proofs.Places.{found_place}
use Rattle.zr_lists.proofs.Order.{nat_order}
use Rattle.zr_local.specs.Clients.{client_link}
use Rattle.zr_told.proofs.touched.place_on.Goals as goal

pub returns : goal.returns
returns c =
    found_place nat_cmp client_link nat_order c.args.clients.now c.args.link _ c.requires c.binary_search_by_key.ensures.bound
    (c.binary_search_by_key.ensures.position (λ x. x.link.0) (answers_always _ _ _ (λ f a r g called. search rules)))
