-- No row so far has the branch.
use Rattle.std.proofs.Common.{◌≡◌}
use Rattle.std.specs.Map.{values_of}
use Rattle.zr_pend_spec.specs.Pending.{is_pending}
use Rattle.zr_pend_rows.proofs.rows.search.Given as goal

abbrev pub invariant-loop-place : goal.invariant-loop-place
invariant-loop-place l =
    is_pending l.branch (values_of l.place-iterator) ≡ is_pending l.branch (values_of l.rows.entries)
