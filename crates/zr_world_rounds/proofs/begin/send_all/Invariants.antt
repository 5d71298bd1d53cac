use Rattle.std.specs.Vec.Iter.{into_iter_items}
use Rattle.zr_law_rounds.specs.Told.{went, went_weighs}
use Rattle.zr_world_rounds.proofs.Coming.{AreComing}
use Rattle.zr_world_rounds.proofs.begin.send_all.Given as goal

abbrev pub invariant-loop-x : goal.invariant-loop-x
invariant-loop-x l = AreComing (went l.is_router (l.router, l.neighbour)) (went_weighs l.is_router (l.router, l.neighbour)) l.fn.queue.items (into_iter_items l.x-iterator) l.fn.shares l.shares
