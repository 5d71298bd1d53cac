use Rattle.std.proofs.Common.{◌≡◌, ◌++◌}
use Rattle.std.specs.Vec.Iter.{drain_items}
use Rattle.zr_netrun_batches.specs.Coming.{messages_in}
use Rattle.zr_netrun_batches.proofs.reading.put_messages.Given as goal

abbrev pub invariant-loop-event : goal.invariant-loop-event
invariant-loop-event l = l.ready.items ++ messages_in (drain_items l.event-iterator) ≡ l.fn.ready.items ++ messages_in l.fn.events.items
