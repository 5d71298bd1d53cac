-- What stands in the index and what is left to be added make all.
use Rattle.std.proofs.Common.{◌≡◌, ℕ, ◌+◌, List, drop}
use Rattle.std.specs.List.{sum_by}
use Rattle.zr_index.specs.Meeting.{held}
use Rattle.zr_told_interested.specs.Keys.{keyed}
use Rattle.zr_told_interested.proofs.by_key.keyed.Given as goal

abbrev pub invariant-loop-client : goal.invariant-loop-client
invariant-loop-client l = (f : List (List ℕ) × ℕ → ℕ) → sum_by f (held l.index) + sum_by f (keyed (drop l.client-index l.clients)) ≡ sum_by f (keyed l.clients)
