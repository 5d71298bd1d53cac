-- What was added, and the replies among the sayings that are left.
use Rattle.std.proofs.Common.{◌≡◌, ◌++◌, drop}
use Rattle.std.specs.List.{filter_map}
use Rattle.zr_guarantee.specs.Queries.{is_said_to}
use Rattle.zr_guarantee.specs.Latest.{all_replies, said_if}
use Rattle.zr_tests_judge.specs.Judge.{acts_of}
use Rattle.zr_tests_judge.proofs.latest.all_replies.Given as goal

abbrev pub invariant-loop-s : goal.invariant-loop-s
invariant-loop-s l =
    l.replies.items ++ filter_map (λ s. said_if (is_said_to (acts_of l.talk) l.talk.report l.q.line s) s.reply) (drop l.s-index l.s-items)
    ≡ all_replies (acts_of l.talk) l.talk.report l.q
