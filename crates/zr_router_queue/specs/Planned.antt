-- A plan as contracts see it: its parcels, behind which the link's outbox stands, and whether it may be left out.
use Rattle.zr_frame.specs.Outbox.{OutboxState}
use Rattle.zr_router_queue.specs.declared.plan.Plan.{Plan}
use Rattle.zr_router_queue.specs.Batches.{batches_in}
use Rattle.zr_router_queue.specs.Ends.{PlanState}

abbrev pub planned : OutboxState → Plan → PlanState
planned outbox p = record { parcels = record { batches = batches_in p.batches; outbox = outbox }; droppable = p.droppable }
