use Rattle.std.proofs.Common.{ℕ, List}
use Rattle.std.specs.Cmp.Lexicographic.{slice_cmp}
use Rattle.std.specs.Ordering.{nat_cmp}
use Rattle.zr_lists.proofs.Order.{name_order}
use Rattle.zr_lists.proofs.Places.{found_place}
use Rattle.zr_push_sought.proofs.hops.place_of.Goals as goal

pub returns : goal.returns
returns c =
    found_place (slice_cmp nat_cmp) (λ (n : List ℕ). n) name_order c.args.names.now c.args.name.now _ c.requires c.binary_search.ensures.bound c.binary_search.ensures.position
