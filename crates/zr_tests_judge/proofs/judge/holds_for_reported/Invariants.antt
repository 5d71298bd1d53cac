-- What is left decides.
use Rattle.std.proofs.Common.{◌≡◌, drop}
use Rattle.std.specs.List.{list_all}
use Rattle.zr_tests_judge.specs.Judge.{holds_for_receiver}
use Rattle.zr_tests_judge.proofs.judge.holds_for_reported.Given as goal

abbrev pub invariant-loop-x : goal.invariant-loop-x
invariant-loop-x l = list_all (λ x. holds_for_receiver l.case l.publisher x) (drop l.x-index l.report) ≡ list_all (λ x. holds_for_receiver l.case l.publisher x) l.report
