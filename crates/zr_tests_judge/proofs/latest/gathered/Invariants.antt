-- What is held so far, and then with the replies that are left.
use Rattle.std.proofs.Common.{◌≡◌, drop}
use Rattle.std.specs.List.{fold}
use Rattle.zr_pend_spec.specs.Held.{gathered, held_with}
use Rattle.zr_tests_judge.proofs.latest.gathered.Given as goal

abbrev pub invariant-loop-reply : goal.invariant-loop-reply
invariant-loop-reply l = fold held_with l.held.items (drop l.reply-index l.replies) ≡ gathered l.replies
