use Rattle.std.proofs.Common.{refl}
use Rattle.zr_log_set.proofs.Decls.{set_none}
use Rattle.zr_log_set.proofs.decl_set.DeclSet.new.Goals as goal

pub invariant_of-result : goal.invariant_of-result
invariant_of-result c = rw c.new.ensures.items (set_none, refl)
