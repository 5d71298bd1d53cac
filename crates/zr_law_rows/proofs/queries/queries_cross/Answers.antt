use Rattle.std.proofs.Common.{refl}
use Rattle.zr_law_rows.proofs.OnLiterals.{scripts_on_literals}
use Rattle.zr_law_rows.proofs.queries.queries_cross.Goals as goal

pub returns : goal.returns
unfolding scripts_on_literals
returns c = refl
