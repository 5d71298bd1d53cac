-- What was added, and the queries of the acts that are left.
use Rattle.std.proofs.Common.{◌≡◌, ◌++◌, drop}
use Rattle.zr_guarantee.specs.Queries.{queries}
use Rattle.zr_tests_judge.proofs.queries.add_queries.Given as goal

abbrev pub invariant-loop-x : goal.invariant-loop-x
invariant-loop-x l = l.out.items ++ queries (drop l.x-index l.acts) ≡ l.fn.out.items ++ queries l.acts
