use Rattle.zr_world_ends.proofs.Carrying.{queue_carried, queue_seen, paired_seen}
use Rattle.zr_world_ends.proofs.ends.Ends.next_queued.Goals as goal

pub invariant_of-self : goal.invariant_of-self
invariant_of-self g c = queue_carried (g.C.Carrier.wire c.self.inside.carrier) c.self.inside.queues c.self.invariant c.args.at c.next_queued.result c.next_queued.new.self c.next_queued.ensures

pub returns-clause-steps : goal.returns-clause-steps
returns-clause-steps g c = rw (← c.self.view_is) (queue_seen (g.C.Carrier.wire c.self.inside.carrier) c.self.inside.queues c.self.invariant c.args.at c.next_queued.result c.next_queued.new.self c.next_queued.ensures)

pub returns-clause-paired : goal.returns-clause-paired
returns-clause-paired g c = paired_seen (g.C.Carrier.wire c.self.inside.carrier) c.next_queued.new.self (queue_carried (g.C.Carrier.wire c.self.inside.carrier) c.self.inside.queues c.self.invariant c.args.at c.next_queued.result c.next_queued.new.self c.next_queued.ensures)
