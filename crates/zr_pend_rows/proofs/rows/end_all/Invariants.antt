-- What has ended and what is left make all, no branch stands twice, and there is room for an asker of each that is left.
use Rattle.std.proofs.Common.{◌≡◌, ◌≤◌, ◌+◌, ◌++◌, true, map, length, drop}
use Rattle.std.specs.Vec.{vec_len, vec_capacity}
use Rattle.std.specs.Map.{values_of}
use Rattle.zr_pend_rows.specs.Ending.{all_ended, finals_among}
use Rattle.zr_pend_spec.specs.Pending.{are_distinct, branch, branches}
use Rattle.zr_pend_rows.proofs.rows.end_all.Given as goal

abbrev pub invariant-loop-number : goal.invariant-loop-number
invariant-loop-number l =
    let left = map (λ n. branch l.link n) (drop l.number-index l.numbers) in
    let all = map (λ n. branch l.link n) l.numbers in
    (all_ended (values_of l.rows.entries) left ≡ all_ended (values_of l.fn.rows.entries) all)
    × (l.askers.items ++ finals_among (values_of l.rows.entries) left ≡ l.fn.askers.items ++ finals_among (values_of l.fn.rows.entries) all)
    × (are_distinct (branches (values_of l.rows.entries)) ≡ true)
    × (vec_len l.askers + length (drop l.number-index l.numbers) ≤ vec_capacity l.askers)
