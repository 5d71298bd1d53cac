use Rattle.zr_log_set.proofs.Decls.{all_weigh}
use Rattle.zr_log_set.proofs.laws.sets_weigh_less.Goals as goal

pub returns : goal.returns
returns c = all_weigh
