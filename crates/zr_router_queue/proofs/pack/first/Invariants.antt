use Rattle.std.proofs.Common.{◌≡◌}
use Rattle.std.specs.Prelude.{drop}
use Rattle.zr_node_spec.specs.Event.{on_link}
use Rattle.zr_router_queue.proofs.pack.first.Given as goal

abbrev pub invariant-loop-to : goal.invariant-loop-to
invariant-loop-to l = on_link l.link (drop l.to-index l.sent) ≡ on_link l.link l.sent
