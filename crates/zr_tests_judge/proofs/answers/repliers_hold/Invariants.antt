-- What is left decides.
use Rattle.std.proofs.Common.{◌≡◌, drop}
use Rattle.std.specs.List.{list_all}
use Rattle.zr_guarantee.specs.Queries.{sayings}
use Rattle.zr_tests_judge.specs.Judge.{acts_of, replier_holds}
use Rattle.zr_tests_judge.proofs.answers.repliers_hold.Given as goal

abbrev pub invariant-loop-s : goal.invariant-loop-s
invariant-loop-s l =
    list_all (λ s. replier_holds l.talk l.q s.client) (drop l.s-index l.s-items) ≡ list_all (λ s. replier_holds l.talk l.q s.client) (sayings (acts_of l.talk))
