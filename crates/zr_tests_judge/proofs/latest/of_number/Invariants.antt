-- What was added, and what is to be of the replies that are left.
use Rattle.std.proofs.Common.{◌≡◌, ◌++◌, map, filter, drop}
use Rattle.std.specs.Prelude.{◌==◌}
use Rattle.zr_pend_spec.specs.Best.{key_body}
use Rattle.zr_tests_judge.proofs.latest.of_number.Given as goal

abbrev pub invariant-loop-r : goal.invariant-loop-r
invariant-loop-r l =
    l.told.items ++ map (λ r. key_body r.content) (filter (λ r. r.number == l.number) (drop l.r-index l.replies))
    ≡ map (λ r. key_body r.content) (filter (λ r. r.number == l.number) l.replies)
