use Rattle.std.proofs.Common.{◌≡◌, ◌+◌, ◌-◌, drop}
use Rattle.zr_local.specs.Interests.{interests_weight}
use Rattle.zr_local.proofs.interest.weight_without.Given as goal

abbrev pub invariant-loop-interest : goal.invariant-loop-interest
invariant-loop-interest l = l.held ≡ (l.fn.held - interests_weight l.fn.items) + interests_weight (drop l.interest-index l.items)
