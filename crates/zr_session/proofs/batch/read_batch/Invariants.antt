use Rattle.std.proofs.Common.{◌-◌, length}
use Rattle.zr_session.specs.Stream.{on_batch}
use Rattle.zr_session.proofs.Reading.{Within}
use Rattle.zr_session.proofs.Items.{left}
use Rattle.zr_session.proofs.batch.read_batch.Given as goal

abbrev pub invariant-items : goal.invariant-items
invariant-items l = Within (on_batch l.opening l.fn.phase l.batch) (left l.opening (length l.batch - l.counter) l.in_frame l.c) l.phase l.fn.out l.out
