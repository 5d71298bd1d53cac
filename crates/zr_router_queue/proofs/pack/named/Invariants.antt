use Rattle.std.proofs.Common.{◌≡◌, drop}
use Rattle.zr_node_spec.specs.Event.{on_link}
use Rattle.zr_frame.specs.Outbox.{with_names}
use Rattle.zr_frame_pack.specs.Marks.{IsLater}
use Rattle.zr_frame_pack.specs.Packing.{before, written}
use Rattle.zr_router_queue.proofs.pack.named.Given as goal

abbrev pub invariant-loop-place : goal.invariant-loop-place
invariant-loop-place l =
    (before (record { messages = l.messages.items; names = l.outbox.names }) (λ next. written next (on_link l.link (drop l.place l.sent)))
    ≡ written l.fn.outbox.names (on_link l.link l.initial.sent))
    × (l.outbox ≡ with_names l.fn.outbox l.outbox.names)
    × IsLater l.fn.outbox.names l.outbox.names
