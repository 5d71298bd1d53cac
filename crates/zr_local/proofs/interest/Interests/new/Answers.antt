use Rattle.zr_local.proofs.Live.{by_id_none}
use Rattle.zr_local.proofs.interest.Interests.new.Goals as goal

pub invariant_of-result : goal.invariant_of-result
invariant_of-result c = rw c.new.ensures.items by_id_none
