-- The askers of the rows so far have asked, and those of the rows that are left are to.
use Rattle.std.proofs.Common.{◌≡◌, ◌||◌}
use Rattle.std.specs.Map.{values_of}
use Rattle.zr_pend_spec.specs.declared.branch.Branch.{Branch}
use Rattle.zr_pend_spec.specs.Pending.{asked}
use Rattle.zr_pend_numbers.specs.Numbers.{is_used}
use Rattle.zr_pend_rows.specs.Tied.{as_asker}
use Rattle.zr_pend_rows.proofs.askers.askers_in.Given as goal

abbrev pub invariant-loop-row : goal.invariant-loop-row
invariant-loop-row l =
    (c : Branch) → (asked (as_asker c) l.row-iterator || is_used l.asked c) ≡ asked (as_asker c) (values_of l.rows.entries)
