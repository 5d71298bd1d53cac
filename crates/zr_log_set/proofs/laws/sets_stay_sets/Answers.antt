use Rattle.zr_log_set.proofs.Decls.{set_with, set_without}
use Rattle.zr_log_set.proofs.laws.sets_stay_sets.Goals as goal

pub returns : goal.returns
returns c = λ ds d up. (set_with ds d up, set_without ds d up)
