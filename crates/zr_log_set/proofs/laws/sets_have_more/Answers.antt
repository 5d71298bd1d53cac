use Rattle.zr_log_set.proofs.Decls.{has_more}
use Rattle.zr_log_set.proofs.laws.sets_have_more.Goals as goal

pub returns : goal.returns
returns c = has_more
