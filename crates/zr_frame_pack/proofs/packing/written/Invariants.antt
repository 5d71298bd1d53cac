use Rattle.std.proofs.Common.{◌≡◌, drop}
use Rattle.zr_frame.specs.Outbox.{with_names}
use Rattle.zr_frame_pack.specs.Marks.{IsLater}
use Rattle.zr_frame_pack.specs.Packing.{before, written}
use Rattle.zr_frame_pack.proofs.packing.written.Given as goal

abbrev pub invariant-loop-msg : goal.invariant-loop-msg
invariant-loop-msg l =
    (before (record { messages = l.written.items; names = l.outbox.names }) (λ next. written next (drop l.msg-index l.messages)) ≡ written l.fn.outbox.names l.initial.messages)
    × (l.outbox ≡ with_names l.fn.outbox l.outbox.names)
    × IsLater l.fn.outbox.names l.outbox.names
