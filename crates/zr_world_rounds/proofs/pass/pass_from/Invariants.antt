-- What was taken from the output and is left comes to others yet.
use Rattle.std.specs.Vec.Iter.{into_iter_items}
use Rattle.zr_world_rounds.proofs.Coming.{IsPassing}
use Rattle.zr_world_rounds.proofs.pass.pass_from.Given as goal

abbrev pub invariant-loop-sending : goal.invariant-loop-sending
invariant-loop-sending l = IsPassing l.from (into_iter_items l.sending-iterator) l.fn.shares l.shares
