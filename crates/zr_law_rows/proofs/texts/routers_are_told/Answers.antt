use Rattle.std.proofs.Common.{refl}
use Rattle.zr_law_rows.proofs.OnLiterals.{scripts_on_literals}
use Rattle.zr_law_rows.proofs.texts.routers_are_told.Goals as goal

pub returns : goal.returns
unfolding scripts_on_literals
returns c = record { state = refl; weighted = refl; alone = refl; added = refl; lives = refl; removed = refl; snap = refl; empty = refl }
