use Rattle.std.proofs.Common.{◌≡◌, ◌+◌, ◌≤◌}
use Rattle.zr_ring.specs.Items.{end_of}
use Rattle.zr_ring.specs.Taker.{taken, take_calls, IsSameTaker}
use Rattle.zr_link_writer.specs.Writing.{Goes}
use Rattle.zr_link_writer.proofs.writer.Writer.run.Given as goal

abbrev pub invariant-loop : goal.invariant-loop
invariant-loop g l =
    (take_calls l.taker ≡ take_calls l.fn.taker + l.counter)
    × IsSameTaker l.fn.taker l.taker
    × (g.K.Sink.faults l.sink ≡ g.K.Sink.faults l.fn.sink)
    × (g.C.Clock.last l.fn.clock ≤ g.C.Clock.last l.clock)
    × (l.joined.moment ≤ g.C.Clock.last l.clock)
    × Goes (taken l.fn.taker) (taken l.taker) (g.C.Clock.last l.fn.clock) l.joined.moment l.joined.bytes.items (g.K.Sink.held l.fn.sink) (g.K.Sink.held l.sink)
    × (end_of (taken l.taker) ≡ end_of (taken l.fn.taker))
