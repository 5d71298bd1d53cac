-- What stands so far, and then by the lines that are left.
use Rattle.std.proofs.Common.{◌≡◌, drop}
use Rattle.std.specs.List.{fold}
use Rattle.zr_guarantee.specs.Broker.{standing_by, standing}
use Rattle.zr_tests_judge.proofs.broker.standing.Given as goal

abbrev pub invariant-loop-x : goal.invariant-loop-x
invariant-loop-x l = fold (λ so_far x. standing_by l.name l.class so_far x.1) l.so_far.items (drop l.x-index l.acts) ≡ standing l.acts l.name l.class
