-- What is left decides.
use Rattle.std.proofs.Common.{◌≡◌, drop}
use Rattle.std.specs.List.{list_all}
use Rattle.zr_tests_judge.specs.Judge.{holds_for_client}
use Rattle.zr_tests_judge.proofs.judge.holds_for_clients.Given as goal

abbrev pub invariant-loop-x : goal.invariant-loop-x
invariant-loop-x l = list_all (λ x. holds_for_client l.case l.publisher x.1) (drop l.x-index l.acts) ≡ list_all (λ x. holds_for_client l.case l.publisher x.1) l.acts
