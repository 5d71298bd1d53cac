-- What is left decides.
use Rattle.std.proofs.Common.{◌≡◌, drop}
use Rattle.std.specs.List.{list_all}
use Rattle.zr_tests_judge.specs.Judge.{query_holds}
use Rattle.zr_tests_judge.proofs.answers.queries_hold.Given as goal

abbrev pub invariant-loop-q : goal.invariant-loop-q
invariant-loop-q l = list_all (λ q. query_holds l.talk q) (drop l.q-index l.asked) ≡ list_all (λ q. query_holds l.talk q) l.asked
