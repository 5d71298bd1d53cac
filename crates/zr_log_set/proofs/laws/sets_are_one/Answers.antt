use Rattle.zr_log_set.proofs.Decls.{sets_same}
use Rattle.zr_log_set.proofs.laws.sets_are_one.Goals as goal

pub returns : goal.returns
returns c = sets_same
