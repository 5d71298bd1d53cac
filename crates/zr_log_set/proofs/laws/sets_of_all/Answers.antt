use Rattle.zr_log_set.proofs.Decls.{set_all, has_all}
use Rattle.zr_log_set.proofs.laws.sets_of_all.Goals as goal

pub returns : goal.returns
returns c = λ ds. (set_all ds, has_all ds)
