-- So many messages have left the wire.
use Rattle.zr_world_ends.specs.Carried.{Drains}
use Rattle.zr_world_ends.proofs.wires.drain.Given as goal

abbrev pub invariant-loop : goal.invariant-loop
invariant-loop g l = Drains (l.router, l.neighbour) l.counter l.wire.items (g.C.Carrier.wire l.fn.carrier) (g.C.Carrier.wire l.carrier)
