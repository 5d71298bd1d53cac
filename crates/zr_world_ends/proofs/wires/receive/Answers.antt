use Rattle.std.proofs.Common.{◌≡◌, None, Some, refl, sym, ◌∙◌, rules}
use Rattle.zr_world_ends.specs.Named.{at_end}
use Rattle.zr_world_ends.proofs.Moving.{down_there, lost_carried, not_there, nothing_sent, taken_carried, taken_is}
use Rattle.zr_world_ends.proofs.wires.receive.Goals as goal

pub returns-in_default-clause-steps : goal.returns-in_default-clause-steps
returns-in_default-clause-steps g c =
    let none : at_end c.args.queues.now (c.args.router, c.args.neighbour) ≡ None = search rules in
    (not_there (g.C.Carrier.wire c.args.carrier.now) c.args.queues.now (c.args.router, c.args.neighbour) c.requires.carried none, refl)

pub returns-then-not-is_up-clause-steps : goal.returns-then-not-is_up-clause-steps
returns-then-not-is_up-clause-steps g c =
    let found : at_end c.args.queues.now (c.args.router, c.args.neighbour) ≡ Some c.in-Some.end.now = search rules in
    (down_there (g.C.Carrier.wire c.args.carrier.now) c.args.queues.now (c.args.router, c.args.neighbour) c.requires.carried c.in-Some.end.now found (sym c.is_up.ensures ∙ c.if-not-is_up.true), refl)

pub returns-then-not-is_sent-clause-steps : goal.returns-then-not-is_sent-clause-steps
returns-then-not-is_sent-clause-steps g c =
    let found : at_end c.args.queues.now (c.args.router, c.args.neighbour) ≡ Some c.in-Some.end.now = search rules in
    (nothing_sent (g.C.Carrier.wire c.args.carrier.now) c.args.queues.now (c.args.router, c.args.neighbour) c.requires.carried c.in-Some.end.now found (sym c.is_up.ensures ∙ c.if-not-is_up.false) (sym c.is_sent.ensures ∙ c.if-not-is_sent.true), refl)

pub returns-in-Ok-clause-steps : goal.returns-in-Ok-clause-steps
returns-in-Ok-clause-steps g c =
    let found : at_end c.args.queues.now (c.args.router, c.args.neighbour) ≡ Some c.in-Some.end.now = search rules in
    taken_is (g.C.Carrier.wire c.args.carrier.now) c.args.queues.now (c.args.router, c.args.neighbour) c.requires.carried c.in-Some.end.now found (g.C.Carrier.wire c.receive.new.self) c.take_found.new.queues c.in-Ok.found c.take_found.result
    (sym c.is_up.ensures ∙ c.if-not-is_up.false) (sym c.is_sent.ensures ∙ c.if-not-is_sent.false) c.in-Ok.ensures.value c.take_found.ensures c.in-Ok.ensures.rest

pub returns-in-Ok-clause-carried : goal.returns-in-Ok-clause-carried
returns-in-Ok-clause-carried g c =
    let found : at_end c.args.queues.now (c.args.router, c.args.neighbour) ≡ Some c.in-Some.end.now = search rules in
    taken_carried (g.C.Carrier.wire c.args.carrier.now) c.args.queues.now (c.args.router, c.args.neighbour) c.requires.carried c.in-Some.end.now found (g.C.Carrier.wire c.receive.new.self) c.take_found.new.queues c.in-Ok.found c.take_found.result
    (sym c.is_sent.ensures ∙ c.if-not-is_sent.false) c.in-Ok.ensures.value c.take_found.ensures c.in-Ok.ensures.rest

pub returns-in-Err-clause-carried : goal.returns-in-Err-clause-carried
returns-in-Err-clause-carried g c = lost_carried (g.C.Carrier.wire c.args.carrier.now) c.args.queues.now (c.args.router, c.args.neighbour) c.requires.carried (g.C.Carrier.wire c.receive.new.self) c.lose.new.self c.lose.ensures c.in-Err.ensures.err
