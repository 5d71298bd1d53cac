use Rattle.std.proofs.Common.{◌≡◌, drop}
use Rattle.zr_node_spec.specs.Event.{on_link}
use Rattle.zr_router_queue.specs.Tables.{is_droppable}
use Rattle.zr_router_queue.proofs.Plans.{droppable_from}
use Rattle.zr_router_queue.proofs.plan.is_droppable.Given as goal

abbrev pub invariant-loop-to : goal.invariant-loop-to
invariant-loop-to l = droppable_from l.only (on_link l.link (drop l.to-index l.sent)) ≡ is_droppable (on_link l.link l.sent)
