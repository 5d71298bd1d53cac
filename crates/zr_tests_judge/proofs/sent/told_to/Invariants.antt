-- What was added, and what was sent by the report lines that are left.
use Rattle.std.proofs.Common.{◌≡◌, ◌++◌, drop}
use Rattle.zr_guarantee.specs.Sent.{told_to}
use Rattle.zr_tests_judge.proofs.sent.told_to.Given as goal

abbrev pub invariant-loop-x : goal.invariant-loop-x
invariant-loop-x l = l.told.items ++ told_to (drop l.x-index l.report) l.receiver ≡ told_to l.report l.receiver
