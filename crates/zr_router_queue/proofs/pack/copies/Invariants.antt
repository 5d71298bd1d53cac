use Rattle.std.proofs.Common.{◌≡◌}
use Rattle.std.specs.Prelude.{drop, ◌++◌}
use Rattle.zr_router_queue.specs.Batches.{bytes_on}
use Rattle.zr_router_queue.proofs.pack.copies.Given as goal

abbrev pub invariant-loop-to : goal.invariant-loop-to
invariant-loop-to l = l.messages.items ++ bytes_on l.link (drop l.to-index l.written) ≡ bytes_on l.fn.link l.initial.written
