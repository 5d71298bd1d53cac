use Rattle.zr_log_set.proofs.Decls.{all_weigh}
use Rattle.zr_local.specs.Rows.{decls_of}
use Rattle.zr_local.proofs.laws.sets_weigh_less.Goals as goal

pub returns : goal.returns
returns c = λ rows. all_weigh (decls_of rows)
