-- What the replies that are left get sent is left to be said.
use Rattle.std.proofs.Common.{drop, map}
use Rattle.zr_lists.proofs.Prefixes.{IsSoFar}
use Rattle.zr_query.specs.Answering.{reply_sent}
use Rattle.zr_query.proofs.answering.send_held.Given as goal

abbrev pub invariant-loop-reply : goal.invariant-loop-reply
invariant-loop-reply l = IsSoFar l.fn.out.items (map (λ c. reply_sent c l.to) l.held) l.out.items (map (λ c. reply_sent c l.to) (drop l.reply-index l.held))
