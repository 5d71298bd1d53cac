-- The ends that are left have not begun yet.
use Rattle.std.proofs.Common.{◌≡◌}
use Rattle.std.specs.Vec.Iter.{into_iter_items}
use Rattle.zr_world_spec.specs.World.{WorldState}
use Rattle.zr_law_rounds.specs.Told.{AreBeginning, MayFan, Stay}
use Rattle.zr_world_rounds.proofs.begin.begin_all.Given as goal

abbrev pub invariant-loop-router : goal.invariant-loop-router
invariant-loop-router l = ((w : WorldState) → MayFan w l.fn.shares → l.fn.ends.items ≡ w.ends → AreBeginning w l.fn.shares l.shares (into_iter_items l.router-iterator)) × Stay l.fn.shares l.shares
