use Rattle.std.proofs.Common.{◌≡◌}
use Rattle.zr_node_spec.specs.Event.{on_link}
use Rattle.zr_router_queue.specs.Ends.{IsAsked, IsPlannedAnew, IsPlannedFor}
use Rattle.zr_router_queue.proofs.Stepped.{zip_so}
use Rattle.zr_router_queue.proofs.event.prepare.Goals as goal

pub returns-in-Ok-clause-each : goal.returns-in-Ok-clause-each
returns-in-Ok-clause-each c =
    zip_so (λ old new. IsPlannedAnew (on_link old.queue.link c.args.sent.now) old new) (λ old new. (new.queue ≡ old.queue) × IsPlannedFor (on_link old.queue.link c.args.sent.now) new)
    (λ old new p. (p.0, p.1)) c.args.ends.now c.plan_links.new.ends c.in-Ok.ensures.planned

pub returns-in-Ok-clause-asked : goal.returns-in-Ok-clause-asked
returns-in-Ok-clause-asked c =
    zip_so (λ old new. IsPlannedAnew (on_link old.queue.link c.args.sent.now) old new) (λ old new. IsAsked old new)
    (λ old new p. p.2) c.args.ends.now c.plan_links.new.ends c.in-Ok.ensures.planned
