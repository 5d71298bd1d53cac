use Rattle.std.proofs.Common.{[]}
use Rattle.std.specs.Vec.Iter.{into_iter_items}
use Rattle.zr_world_gang.specs.Shares.{with_input}
use Rattle.zr_world_gang.proofs.Steps.{IsLeft}
use Rattle.zr_world_gang.proofs.share.Share.handle.Given as goal

abbrev pub invariant-loop-waiting : goal.invariant-loop-waiting
invariant-loop-waiting l = IsLeft (with_input l.fn.self []) l.fn.self.input l.self (into_iter_items l.waiting-iterator)
