use Rattle.std.proofs.Common.{◌≡◌}
use Rattle.std.specs.Prelude.{drop, ◌++◌}
use Rattle.zr_router_queue.specs.Batches.{written_of}
use Rattle.zr_router_queue.proofs.written.written.Given as goal

abbrev pub invariant-loop-to : goal.invariant-loop-to
invariant-loop-to l = l.written.items ++ written_of (drop l.to-index l.sent) ≡ written_of l.initial.sent
