use Rattle.std.proofs.Common.{ap, ◌∙◌}
use Rattle.zr_world_spec.specs.World.{Ends, end_of}
use Rattle.zr_world_ends.specs.Kept.{lifted, new_end}
use Rattle.zr_world_ends.proofs.Putting.{carried_same, client_carried, client_seen, closed_none, cut_carried}
use Rattle.zr_world_ends.proofs.ends.Ends.put_client.Goals as goal

pub open-requires : goal.open-requires
open-requires g c = closed_none c.args.router c.args.client (g.C.Carrier.wire c.self.inside.carrier) (g.C.Carrier.wire c.cut.new.carrier) c.cut.ensures.closed

pub invariant_of-self : goal.invariant_of-self
invariant_of-self g c =
    carried_same (g.C.Carrier.wire c.cut.new.carrier) (g.C.Carrier.wire c.open.new.self) c.cut.new.queues c.in_err-open.ensures.err
    (cut_carried c.args.router c.args.client (g.C.Carrier.wire c.self.inside.carrier) (g.C.Carrier.wire c.cut.new.carrier) c.self.inside.queues c.cut.new.queues c.self.invariant c.cut.ensures.closed c.cut.ensures.broken)

pub invariant_of-self-2 : goal.invariant_of-self-2
invariant_of-self-2 g c =
    client_carried c.args.router c.args.client (g.C.Carrier.wire c.self.inside.carrier) (g.C.Carrier.wire c.cut.new.carrier) c.self.inside.queues c.cut.new.queues c.self.invariant c.cut.ensures.closed c.cut.ensures.broken (g.C.Carrier.wire c.open.new.self) c.put.new.self c.lift.new.self c.in_ok-open.ensures.opened
    c.requires.apart (ap (λ (z : Ends). end_of z (c.args.client, c.args.router)) c.self.view_is ∙ c.requires.none) (c.lift.ensures ∙ ap lifted (c.new-end.ensures ∙ ap new_end c.one.ensures)) c.put.result c.put.ensures.put c.put.ensures.err

pub returns : goal.returns
returns g c = rw (← c.self.view_is)
    (client_seen c.args.router c.args.client (g.C.Carrier.wire c.self.inside.carrier) (g.C.Carrier.wire c.cut.new.carrier) c.self.inside.queues c.cut.new.queues c.self.invariant c.cut.ensures.closed c.cut.ensures.broken (g.C.Carrier.wire c.open.new.self) c.put.new.self c.lift.new.self c.in_ok-open.ensures.opened
    c.requires.apart (ap (λ (z : Ends). end_of z (c.args.client, c.args.router)) c.self.view_is ∙ c.requires.none) (c.lift.ensures ∙ ap lifted (c.new-end.ensures ∙ ap new_end c.one.ensures)) c.put.result c.put.ensures.put)
