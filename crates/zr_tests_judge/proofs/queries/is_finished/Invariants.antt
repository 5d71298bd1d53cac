-- What is left decides.
use Rattle.std.proofs.Common.{◌≡◌, drop}
use Rattle.std.specs.Prelude.{◌||◌, not}
use Rattle.std.specs.List.{list_all}
use Rattle.zr_guarantee.specs.Names.{clients}
use Rattle.zr_guarantee.specs.Queries.{asks, has_ended, is_finished}
use Rattle.zr_tests_judge.specs.Judge.{acts_of}
use Rattle.zr_tests_judge.proofs.queries.is_finished.Given as goal

abbrev pub invariant-loop-x : goal.invariant-loop-x
invariant-loop-x l =
    list_all (λ c. not (asks l.talk.before l.q c) || has_ended (acts_of l.talk) l.talk.report l.q c) (clients (drop l.x-index l.before))
    ≡ is_finished l.talk.before (acts_of l.talk) l.talk.report l.q
