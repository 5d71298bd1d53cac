use Rattle.zr_node_spec.specs.Event.{on_link}
use Rattle.zr_router_queue.specs.Ends.{IsPlannedAnew}
use Rattle.zr_router_queue.proofs.Stepped.{IsStepped}
use Rattle.zr_router_queue.proofs.event.plan_all.Given as goal

abbrev pub invariant-loop-end : goal.invariant-loop-end
invariant-loop-end l = IsStepped (λ old new. IsPlannedAnew (on_link old.queue.link l.sent) old new) l.end-index l.fn.ends l.ends
