use Rattle.std.proofs.Common.{rules}
use Rattle.std.specs.Cmp.Lexicographic.{slice_cmp}
use Rattle.std.specs.Ordering.{nat_cmp}
use Rattle.std.proofs.lemmas.Fn.{always_returns_same}
use Rattle.zr_lists.proofs.Order.{name_order}
use Rattle.zr_lists.proofs.Places.{found_place}
use Rattle.zr_pend.proofs.replies.place_of.Goals as goal

pub returns : goal.returns
returns c =
    found_place (slice_cmp nat_cmp) (λ r. r.key) name_order c.args.items.now c.args.key.now _ c.requires c.binary_search_by.ensures.bound
    (c.binary_search_by.ensures.position (λ r. slice_cmp nat_cmp r.key c.args.key.now) (always_returns_same _ _ _ (λ a r g called. search rules)))
