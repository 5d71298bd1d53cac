-- What is left decides.
use Rattle.std.proofs.Common.{◌≡◌, drop}
use Rattle.std.specs.Prelude.{◌&&◌}
use Rattle.std.specs.List.{list_any}
use Rattle.zr_guarantee.specs.Queries.{is_said_to, sayings}
use Rattle.zr_guarantee.specs.Latest.{is_what_is_said}
use Rattle.zr_tests_judge.specs.Judge.{acts_of}
use Rattle.zr_tests_judge.proofs.queries.is_said.Given as goal

abbrev pub invariant-loop-s : goal.invariant-loop-s
invariant-loop-s l =
    list_any (λ s. is_said_to (acts_of l.talk) l.talk.report l.q.line s && is_what_is_said l.q l.reply s) (drop l.s-index l.s-items)
    ≡ list_any (λ s. is_said_to (acts_of l.talk) l.talk.report l.q.line s && is_what_is_said l.q l.reply s) (sayings (acts_of l.talk))
