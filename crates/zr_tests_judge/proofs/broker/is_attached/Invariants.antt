-- Whether the client is attached so far, and then by the lines that are left.
use Rattle.std.proofs.Common.{◌≡◌, drop}
use Rattle.std.specs.List.{fold}
use Rattle.zr_guarantee.specs.Broker.{attached_by, is_attached}
use Rattle.zr_tests_judge.proofs.broker.is_attached.Given as goal

abbrev pub invariant-loop-x : goal.invariant-loop-x
invariant-loop-x l = fold (λ so_far x. attached_by l.name so_far x.1) l.so_far (drop l.x-index l.acts) ≡ is_attached l.acts l.name
