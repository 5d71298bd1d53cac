use Rattle.zr_world_ends.proofs.Seen.{on_wires}
use Rattle.zr_world_ends.proofs.ends.Ends.carrier.Goals as goal

pub returns : goal.returns
returns g c = rw (← c.self.view_is) (on_wires (g.C.Carrier.wire c.self.inside.carrier) c.self.inside.queues)
