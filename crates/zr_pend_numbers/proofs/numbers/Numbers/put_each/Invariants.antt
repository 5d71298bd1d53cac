-- The numbers so far are put, those that are left come among them, and others are as before.
use Rattle.zr_pend_numbers.specs.Numbers.{is_used}
use Rattle.zr_pend_numbers.proofs.InUse.{IsPut}
use Rattle.zr_pend_numbers.proofs.numbers.Numbers.put_each.Given as goal

abbrev pub invariant-loop-branch : goal.invariant-loop-branch
invariant-loop-branch l =
    IsPut l.branches l.branch-index (λ c. is_used l.fn.self c) (λ c. is_used l.self c)
