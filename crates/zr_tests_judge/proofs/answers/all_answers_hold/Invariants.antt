-- What is left decides.
use Rattle.std.proofs.Common.{◌≡◌, drop}
use Rattle.std.specs.List.{list_all}
use Rattle.zr_tests_judge.specs.Judge.{answers_hold}
use Rattle.zr_tests_judge.proofs.answers.all_answers_hold.Given as goal

abbrev pub invariant-loop-x : goal.invariant-loop-x
invariant-loop-x l = list_all (λ x. answers_hold l.talk x) (drop l.x-index l.report) ≡ list_all (λ x. answers_hold l.talk x) l.report
