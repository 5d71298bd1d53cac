-- What stands in the index and what is left to be added make what stood there and all of the client.
use Rattle.std.proofs.Common.{◌≡◌, ℕ, ◌+◌, ◌++◌, List, drop}
use Rattle.std.specs.List.{sum_by, flat_map}
use Rattle.zr_index.specs.Meeting.{held}
use Rattle.zr_told_interested.specs.Keys.{pair_of, pairs_on}
use Rattle.zr_told_interested.proofs.by_key.add_client.Given as goal

abbrev pub invariant-loop-interest : goal.invariant-loop-interest
invariant-loop-interest l =
    (f : List (List ℕ) × ℕ → ℕ) → sum_by f (held l.index) + sum_by f (flat_map (λ i. pair_of l.client.link.0 i) (drop l.interest-index l.client.interests)) ≡ sum_by f (pairs_on l.client ++ held l.fn.index)
