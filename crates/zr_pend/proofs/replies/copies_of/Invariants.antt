use Rattle.std.proofs.Common.{◌≡◌, ◌++◌, drop}
use Rattle.zr_pend.proofs.replies.copies_of.Given as goal

abbrev pub invariant-loop-reply : goal.invariant-loop-reply
invariant-loop-reply l = l.copies.items ++ drop l.reply-index l.replies ≡ l.fn.replies
