-- What is left decides.
use Rattle.std.proofs.Common.{◌≡◌, drop}
use Rattle.std.specs.Prelude.{◌&&◌, is_none}
use Rattle.std.specs.List.{list_any}
use Rattle.zr_id.specs.Zid.{is_named}
use Rattle.zr_guarantee.specs.Queries.{has_ended, is_said_to}
use Rattle.zr_tests_judge.specs.Judge.{acts_of}
use Rattle.zr_tests_judge.proofs.queries.has_ended.Given as goal

abbrev pub invariant-loop-s : goal.invariant-loop-s
invariant-loop-s l =
    list_any (λ s. is_named l.client s.client && (is_none s.reply && is_said_to (acts_of l.talk) l.talk.report l.q.line s)) (drop l.s-index l.s-items)
    ≡ has_ended (acts_of l.talk) l.talk.report l.q l.client
