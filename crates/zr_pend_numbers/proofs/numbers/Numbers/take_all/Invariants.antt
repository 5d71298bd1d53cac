-- The numbers so far are taken, and those that are left are to be.
use Rattle.std.proofs.Common.{◌≡◌, ◌&&◌, not, drop}
use Rattle.zr_pend_spec.specs.declared.branch.Branch.{Branch}
use Rattle.zr_pend_numbers.specs.Numbers.{is_used}
use Rattle.zr_pend_numbers.proofs.InUse.{is_among}
use Rattle.zr_pend_numbers.proofs.numbers.Numbers.take_all.Given as goal

abbrev pub invariant-loop-branch : goal.invariant-loop-branch
invariant-loop-branch l =
    (c : Branch) → (not (is_among c (drop l.branch-index l.branches)) && is_used l.self c) ≡ (not (is_among c l.branches) && is_used l.fn.self c)
