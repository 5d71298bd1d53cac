-- What was added, and what clients say in the acts that are left.
use Rattle.std.proofs.Common.{◌≡◌, ◌++◌, drop}
use Rattle.zr_guarantee.specs.Queries.{sayings}
use Rattle.zr_tests_judge.proofs.queries.add_sayings.Given as goal

abbrev pub invariant-loop-x : goal.invariant-loop-x
invariant-loop-x l = l.out.items ++ sayings (drop l.x-index l.acts) ≡ l.fn.out.items ++ sayings l.acts
