use Rattle.std.proofs.Common.{◌≡◌, ◌≤◌, ◌-◌, length, take}
use Rattle.zr_outside.specs.Told.{Appends}
use Rattle.zr_outside.proofs.sink.write_all.Given as goal

abbrev pub invariant-loop-at : goal.invariant-loop-at
invariant-loop-at g l = (l.at ≤ length l.text) × (g.K.Sink.faults l.out ≡ g.K.Sink.faults l.fn.out) × Appends (take l.at l.text) (g.K.Sink.held l.fn.out) (g.K.Sink.held l.out)

abbrev pub decreases-loop-at : goal.decreases-loop-at
decreases-loop-at g l = length l.text - l.at
