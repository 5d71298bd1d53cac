-- What was added, and what is told of the replies that are left.
use Rattle.std.proofs.Common.{◌≡◌, ◌++◌, map, drop}
use Rattle.zr_pend_spec.specs.Best.{key_body}
use Rattle.zr_tests_judge.proofs.latest.keys_and_bodies.Given as goal

abbrev pub invariant-loop-r : goal.invariant-loop-r
invariant-loop-r l = l.told.items ++ map key_body (drop l.r-index l.replies) ≡ map key_body l.replies
