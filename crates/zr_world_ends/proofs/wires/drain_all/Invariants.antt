-- The ends that are left were not drained yet.
use Rattle.std.specs.Vec.Iter.{into_iter_items}
use Rattle.zr_world_ends.proofs.Draining.{Draining}
use Rattle.zr_world_ends.proofs.wires.drain_all.Given as goal

abbrev pub invariant-loop-router : goal.invariant-loop-router
invariant-loop-router g l = Draining (g.C.Carrier.wire l.fn.carrier) l.fn.ends.items l.drained.items (g.C.Carrier.wire l.carrier) (into_iter_items l.router-iterator)
