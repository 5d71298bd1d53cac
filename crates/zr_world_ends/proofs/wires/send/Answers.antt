use Rattle.std.proofs.Common.{◌≡◌, None, not, sym, ap, ◌∙◌}
use Rattle.std.specs.Prelude.{is_some}
use Rattle.std.proofs.lemmas.Result.{on_ok_weaker}
use Rattle.zr_lists.proofs.Options.{not_there, there_changed}
use Rattle.zr_world_spec.specs.World.{sent}
use Rattle.zr_world_spec.proofs.Keyed.{there}
use Rattle.zr_world_ends.specs.Named.{at_end}
use Rattle.zr_world_ends.proofs.Carrying.{can_send}
use Rattle.zr_world_ends.proofs.Moving.{lost_again, sent_carried, sent_changed, sent_found, sent_nowhere}
use Rattle.zr_world_ends.proofs.Putting.{sent_err, sent_ok}
use Rattle.zr_world_ends.proofs.wires.send.Goals as goal

pub returns-then-is_none-clause-sent : goal.returns-then-is_none-clause-sent
returns-then-is_none-clause-sent g c =
    let none : at_end c.args.queues.now (c.args.router, c.args.neighbour) ≡ None =
    not_there (at_end c.args.queues.now (c.args.router, c.args.neighbour)) (ap is_some (sym c.get.ensures) ∙ there_changed (λ x. x.now) c.get.result ∙ c.is_none.ensures ∙ ap not c.if-is_none.true) in
    (sent_nowhere (g.C.Carrier.wire c.args.carrier.now) c.args.queues.now (c.args.router, c.args.neighbour) c.requires.carried (λ s. sent s c.args.msg.now c.args.tag) none).0

pub returns-then-is_none-clause-changed : goal.returns-then-is_none-clause-changed
returns-then-is_none-clause-changed g c =
    let none : at_end c.args.queues.now (c.args.router, c.args.neighbour) ≡ None =
    not_there (at_end c.args.queues.now (c.args.router, c.args.neighbour)) (ap is_some (sym c.get.ensures) ∙ there_changed (λ x. x.now) c.get.result ∙ c.is_none.ensures ∙ ap not c.if-is_none.true) in
    (sent_nowhere (g.C.Carrier.wire c.args.carrier.now) c.args.queues.now (c.args.router, c.args.neighbour) c.requires.carried (λ s. sent s c.args.msg.now c.args.tag) none).1

pub send-sent-requires : goal.send-sent-requires
send-sent-requires g c =
    let found = there (at_end c.args.queues.now (c.args.router, c.args.neighbour)) (ap is_some (sym c.get.ensures) ∙ there_changed (λ x. x.now) c.get.result ∙ c.is_none.ensures ∙ ap not c.if-is_none.false) in
    (can_send (g.C.Carrier.wire c.args.carrier.now) c.args.queues.now (c.args.router, c.args.neighbour) found.0 c.args.msg.now c.requires.carried c.requires.may found.1).1

pub returns-else-is_err-clause-sent : goal.returns-else-is_err-clause-sent
returns-else-is_err-clause-sent g c =
    on_ok_weaker c.send-sent.result
    (sent_found (g.C.Carrier.wire c.args.carrier.now) c.args.queues.now (c.args.router, c.args.neighbour) c.requires.carried (g.C.Carrier.wire c.send-sent.new.self) c.args.msg.now c.args.tag c.requires.may c.kind_of-kind.result c.kind_of-kind.ensures c.announce.new.self c.in_ok-announce.ensures.announced)
    c.send-sent.ensures.sent

pub returns-else-is_err-clause-changed : goal.returns-else-is_err-clause-changed
returns-else-is_err-clause-changed g c =
    on_ok_weaker c.send-sent.result
    (sent_changed (g.C.Carrier.wire c.args.carrier.now) c.args.queues.now (c.args.router, c.args.neighbour) c.requires.carried (g.C.Carrier.wire c.send-sent.new.self) c.args.msg.now c.args.tag c.requires.may c.kind_of-kind.result c.kind_of-kind.ensures c.announce.new.self c.in_ok-announce.ensures.announced)
    c.send-sent.ensures.sent

pub returns-else-is_err-clause-carried : goal.returns-else-is_err-clause-carried
returns-else-is_err-clause-carried g c =
    sent_ok c.send-sent.result c.send-sent.ensures.sent (sym c.is_err.ensures.value ∙ c.if-is_err.false)
    (sent_carried (g.C.Carrier.wire c.args.carrier.now) c.args.queues.now (c.args.router, c.args.neighbour) c.requires.carried (g.C.Carrier.wire c.send-sent.new.self) c.args.msg.now c.args.tag c.requires.may c.kind_of-kind.result c.kind_of-kind.ensures c.announce.new.self c.in_ok-announce.ensures.announced)

pub returns-then-is_err-clause-carried : goal.returns-then-is_err-clause-carried
returns-then-is_err-clause-carried g c =
    sent_err c.send-sent.result c.send-sent.ensures.err (sym c.is_err.ensures.value ∙ c.if-is_err.true)
    (lost_again (g.C.Carrier.wire c.args.carrier.now) c.args.queues.now (c.args.router, c.args.neighbour) c.requires.carried (g.C.Carrier.wire c.send-sent.new.self) c.kind_of-kind.result c.announce.new.self c.lose.new.self c.in_ok-announce.ensures.announced c.lose.ensures)
