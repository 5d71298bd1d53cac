use Rattle.zr_world_spec.specs.World.{WorldState}
use Rattle.zr_law_rounds.specs.Told.{AreUnderWay, Stay}
use Rattle.zr_world_rounds.proofs.rounds.all_rounds.Given as goal

abbrev pub invariant-loop : goal.invariant-loop
invariant-loop g l = (w : WorldState) → AreUnderWay w l.fn.shares.items → AreUnderWay w l.shares.items × Stay l.fn.shares.items l.shares.items
