-- What was added, and the replies among the sayings that are left.
use Rattle.std.proofs.Common.{◌≡◌, ◌++◌, drop}
use Rattle.std.specs.List.{filter_map}
use Rattle.zr_guarantee.specs.Queries.{replies, reply_of}
use Rattle.zr_tests_judge.specs.Judge.{acts_of}
use Rattle.zr_tests_judge.proofs.queries.replies.Given as goal

abbrev pub invariant-loop-s : goal.invariant-loop-s
invariant-loop-s l =
    l.replies.items ++ filter_map (λ s. reply_of (acts_of l.talk) l.talk.report l.q l.replier s s.reply) (drop l.s-index l.s-items)
    ≡ replies (acts_of l.talk) l.talk.report l.q l.replier
