-- What was added, and the replies among the messages that are left.
use Rattle.std.proofs.Common.{◌≡◌, ◌++◌, drop}
use Rattle.zr_guarantee.specs.Sent.{replies_in}
use Rattle.zr_tests_judge.proofs.sent.replies_in.Given as goal

abbrev pub invariant-loop-x : goal.invariant-loop-x
invariant-loop-x l = l.replies.items ++ replies_in (drop l.x-index l.told) ≡ replies_in l.told
