use Rattle.zr_world_ends.proofs.Putting.{cut_carried, cut_seen}
use Rattle.zr_world_ends.proofs.ends.Ends.break_link.Goals as goal

pub invariant_of-self : goal.invariant_of-self
invariant_of-self g c = cut_carried c.args.one c.args.other (g.C.Carrier.wire c.self.inside.carrier) (g.C.Carrier.wire c.cut.new.carrier) c.self.inside.queues c.cut.new.queues c.self.invariant c.cut.ensures.closed c.cut.ensures.broken

pub returns : goal.returns
returns g c = rw (← c.self.view_is) (cut_seen c.args.one c.args.other (g.C.Carrier.wire c.self.inside.carrier) (g.C.Carrier.wire c.cut.new.carrier) c.self.inside.queues c.cut.new.queues c.self.invariant c.cut.ensures.closed c.cut.ensures.broken)
