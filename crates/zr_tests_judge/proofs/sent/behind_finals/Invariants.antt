-- What is left decides.
use Rattle.std.proofs.Common.{◌≡◌, length}
use Rattle.zr_guarantee.specs.Sent.{behind_finals}
use Rattle.zr_tests_judge.proofs.sent.behind_finals.Given as goal

abbrev pub invariant-loop-left : goal.invariant-loop-left
invariant-loop-left l = behind_finals l.number l.left l.rest ≡ behind_finals l.number l.fn.count l.fn.told

abbrev pub decreases-loop-left : goal.decreases-loop-left
decreases-loop-left l = length l.rest
