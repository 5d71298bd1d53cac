use Rattle.zr_log_set.proofs.Decls.{has_less}
use Rattle.zr_log_set.proofs.laws.sets_have_less.Goals as goal

pub returns : goal.returns
returns c = has_less
