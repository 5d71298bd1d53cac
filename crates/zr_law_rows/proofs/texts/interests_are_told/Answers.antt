use Rattle.std.proofs.Common.{refl}
use Rattle.zr_law_rows.proofs.OnLiterals.{scripts_on_literals}
use Rattle.zr_law_rows.proofs.texts.interests_are_told.Goals as goal

pub returns : goal.returns
unfolding scripts_on_literals
returns c = record { now = refl; later = refl; both = refl; tokens = refl; ended = refl; told_sub = refl; told_able = refl; told_full = refl; told_token = refl; told_unsub = refl; told_untoken = refl; told_unable = refl; told_end = refl }
