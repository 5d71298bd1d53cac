use Rattle.std.proofs.Common.{refl}
use Rattle.zr_pend_spec.proofs.Gathered.{by_key_none}
use Rattle.zr_pend.proofs.replies.Replies.new.Goals as goal

pub invariant_of-result : goal.invariant_of-result
invariant_of-result c = rw c.new.ensures.items (by_key_none, refl)
