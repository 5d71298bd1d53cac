use Rattle.zr_push_sought.proofs.Ways.{none_ascends}
use Rattle.zr_push_sought.proofs.hops.Hops.new.Goals as goal

pub invariant_of-result : goal.invariant_of-result
invariant_of-result c = rw c.new.ensures.items none_ascends
