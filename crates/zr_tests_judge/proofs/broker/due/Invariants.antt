-- What was added, and what is due of the lines that are left.
use Rattle.std.proofs.Common.{◌≡◌, ◌++◌, drop}
use Rattle.zr_guarantee.specs.Broker.{from}
use Rattle.zr_tests_judge.proofs.broker.due.Given as goal

abbrev pub invariant-loop-x : goal.invariant-loop-x
invariant-loop-x l = l.due.items ++ from l.before (drop l.x-index l.phase) l.publisher l.receiver ≡ from l.before l.phase l.publisher l.receiver
