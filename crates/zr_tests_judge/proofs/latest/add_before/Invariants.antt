-- What was added, and what is to be of the replies that are left.
use Rattle.std.proofs.Common.{◌≡◌, ◌++◌, drop}
use Rattle.std.specs.Cmp.Lexicographic.{slice_cmp}
use Rattle.std.specs.Ordering.{nat_cmp}
use Rattle.zr_lists.specs.Ascending.{before_key}
use Rattle.zr_tests_judge.proofs.latest.add_before.Given as goal

abbrev pub invariant-loop-r : goal.invariant-loop-r
invariant-loop-r l =
    l.out.items ++ before_key (slice_cmp nat_cmp) (λ r. r.key) (drop l.r-index l.held) l.key
    ≡ l.fn.out.items ++ before_key (slice_cmp nat_cmp) (λ r. r.key) l.held l.key
