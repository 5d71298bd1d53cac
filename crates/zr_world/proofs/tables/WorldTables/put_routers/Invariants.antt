-- Some routers are there again, those of the shares that are left come yet, and all else is as it was.
use Rattle.std.proofs.Common.{◌≡◌}
use Rattle.std.specs.Vec.Iter.{into_iter_items}
use Rattle.zr_world_spec.specs.World.{Routers, with_routers}
use Rattle.zr_world.specs.Fanned.{AreOf}
use Rattle.zr_world.specs.State.{state_of}
use Rattle.zr_world.proofs.Fanning.{ArePut}
use Rattle.zr_world.proofs.tables.WorldTables.put_routers.Given as goal

abbrev pub invariant-loop-share : goal.invariant-loop-share
invariant-loop-share g l =
    ((rs : Routers) → AreOf rs l.fn.shares.items l.fn.weights.items → ArePut rs l.self.routers.entries (into_iter_items l.share-iterator) (into_iter_items l.weights)) × (state_of l.self ≡ with_routers (state_of l.fn.self) l.self.routers.entries)
