use Rattle.std.specs.Vec.Iter.{into_iter_items}
use Rattle.zr_world_rounds.proofs.Coming.{AreComing, to_wait, untold}
use Rattle.zr_world_rounds.proofs.begin.receive_all.Given as goal

abbrev pub invariant-loop-x : goal.invariant-loop-x
invariant-loop-x l = AreComing (to_wait (l.router, l.neighbour)) untold l.fn.wire.items (into_iter_items l.x-iterator) l.fn.shares l.shares
