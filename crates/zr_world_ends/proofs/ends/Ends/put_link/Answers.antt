use Rattle.zr_world_ends.proofs.Putting.{carried_same, closed_none, cut_carried, link_carried, link_seen}
use Rattle.zr_world_ends.proofs.ends.Ends.put_link.Goals as goal

pub open-requires : goal.open-requires
open-requires g c = closed_none c.args.one c.args.other (g.C.Carrier.wire c.self.inside.carrier) (g.C.Carrier.wire c.cut.new.carrier) c.cut.ensures.closed

pub invariant_of-self : goal.invariant_of-self
invariant_of-self g c =
    carried_same (g.C.Carrier.wire c.cut.new.carrier) (g.C.Carrier.wire c.open.new.self) c.cut.new.queues c.in_err-open.ensures.err
    (cut_carried c.args.one c.args.other (g.C.Carrier.wire c.self.inside.carrier) (g.C.Carrier.wire c.cut.new.carrier) c.self.inside.queues c.cut.new.queues c.self.invariant c.cut.ensures.closed c.cut.ensures.broken)

pub invariant_of-self-2 : goal.invariant_of-self-2
invariant_of-self-2 g c =
    link_carried c.args.one c.args.other (g.C.Carrier.wire c.self.inside.carrier) (g.C.Carrier.wire c.cut.new.carrier) c.self.inside.queues c.cut.new.queues c.self.invariant c.cut.ensures.closed c.cut.ensures.broken c.args.weight (g.C.Carrier.wire c.open.new.self) c.put_both.new.queues c.in_ok-open.ensures.opened
    c.put_both.result c.put_both.ensures.put c.put_both.ensures.err

pub returns : goal.returns
returns g c = rw (← c.self.view_is)
    (link_seen c.args.one c.args.other (g.C.Carrier.wire c.self.inside.carrier) (g.C.Carrier.wire c.cut.new.carrier) c.self.inside.queues c.cut.new.queues c.self.invariant c.cut.ensures.closed c.cut.ensures.broken c.args.weight (g.C.Carrier.wire c.open.new.self) c.put_both.new.queues c.in_ok-open.ensures.opened
    c.put_both.result c.put_both.ensures.put)
