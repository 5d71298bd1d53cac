use Rattle.std.proofs.Common.{refl}
use Rattle.zr_law_rows.proofs.OnLiterals.{scripts_on_literals}
use Rattle.zr_law_rows.proofs.rows.deletion_is_due.Goals as goal

pub returns : goal.returns
unfolding scripts_on_literals
returns c = refl
