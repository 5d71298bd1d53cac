use Rattle.std.proofs.Common.{◌≡◌, ◌++◌}
use Rattle.zr_router_queue.proofs.pack.whole.Given as goal

abbrev pub invariant-loop-batch : goal.invariant-loop-batch
invariant-loop-batch l = l.all.items ++ l.batch-iterator.rest.items ≡ l.fn.batches.items
