-- The numbers so far are taken, and those that are left are to be.
use Rattle.std.proofs.Common.{◌≡◌, ◌&&◌, not, drop}
use Rattle.zr_pend_spec.specs.declared.branch.Branch.{Branch}
use Rattle.zr_pend_numbers.specs.Numbers.{is_used}
use Rattle.zr_pend_rows.proofs.Asking.{is_one_of}
use Rattle.zr_pend_rows.proofs.askers.take_askers.Given as goal

abbrev pub invariant-loop-asker : goal.invariant-loop-asker
invariant-loop-asker l =
    (c : Branch) → (not (is_one_of c (drop l.asker-index l.askers)) && is_used l.asked c) ≡ (not (is_one_of c l.askers) && is_used l.fn.asked c)
