use Rattle.std.proofs.Common.{refl}
use Rattle.zr_law_rows.proofs.OnLiterals.{scripts_on_literals}
use Rattle.zr_law_rows.proofs.texts.declarations_are_told.Goals as goal

pub returns : goal.returns
unfolding scripts_on_literals
returns c = record { sub = refl; unsub = refl; token = refl; untoken = refl; able = refl; full = refl; unable = refl }
