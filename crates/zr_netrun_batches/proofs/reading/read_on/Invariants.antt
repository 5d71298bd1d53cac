use Rattle.std.proofs.Common.{length}
use Rattle.zr_netrun_batches.specs.Coming.{GoesOn}
use Rattle.zr_netrun_batches.proofs.reading.read_on.Given as goal

abbrev pub invariant-pieces : goal.invariant-pieces
invariant-pieces l = GoesOn l.fn.session l.fn.wire l.fn.ready.items l.session l.wire l.ready.items

abbrev pub decreases-pieces : goal.decreases-pieces
decreases-pieces l = length l.wire
