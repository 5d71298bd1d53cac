-- What is left to tell is left to be said and leads to the same end.
use Rattle.std.proofs.Common.{◌≡◌, ℕ, drop}
use Rattle.std.specs.List.{flat_map}
use Rattle.zr_lists.proofs.Prefixes.{IsSoFar}
use Rattle.zr_told.specs.Plan.{PlansAscend, ids_last, tells_plan, told_plans}
use Rattle.zr_told.proofs.told.Told.tell_all.Given as goal

abbrev pub invariant-loop-planned : goal.invariant-loop-planned
invariant-loop-planned l =
    ((k : ℕ) → told_plans l.self (drop l.planned-index l.plans) k ≡ told_plans l.fn.self l.plans k)
    × IsSoFar l.fn.out.items (flat_map (tells_plan l.fn.self) l.plans) l.out.items (flat_map (tells_plan l.self) (drop l.planned-index l.plans))
    × ids_last l.self (drop l.planned-index l.plans)
    × PlansAscend (drop l.planned-index l.plans)
