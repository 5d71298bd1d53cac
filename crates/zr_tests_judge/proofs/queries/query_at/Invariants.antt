-- What is left decides.
use Rattle.std.proofs.Common.{◌≡◌, drop, filter}
use Rattle.std.specs.List.{slice_get}
use Rattle.zr_guarantee.specs.Queries.{is_under, query_at}
use Rattle.zr_tests_judge.specs.Judge.{acts_of}
use Rattle.zr_tests_judge.proofs.queries.query_at.Given as goal

abbrev pub invariant-loop-q : goal.invariant-loop-q
invariant-loop-q l =
    slice_get (filter (λ q. is_under l.client l.number q) (drop l.q-index l.q-items)) l.left ≡ query_at (acts_of l.talk) l.client l.number l.fn.turns
