-- The numbers of the rows so far are in use, and those of the rows that are left are to be.
use Rattle.std.proofs.Common.{◌≡◌, ◌||◌}
use Rattle.std.specs.Map.{values_of}
use Rattle.zr_pend_spec.specs.declared.branch.Branch.{Branch}
use Rattle.zr_pend_spec.specs.Pending.{is_pending}
use Rattle.zr_pend_numbers.specs.Numbers.{is_used}
use Rattle.zr_pend_rows.proofs.rows.numbers_in.Given as goal

abbrev pub invariant-loop-row : goal.invariant-loop-row
invariant-loop-row l =
    (c : Branch) → (is_pending c l.row-iterator || is_used l.numbers c) ≡ is_pending c (values_of l.rows.entries)
