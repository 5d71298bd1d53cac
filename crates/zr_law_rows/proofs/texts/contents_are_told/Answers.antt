use Rattle.std.proofs.Common.{refl}
use Rattle.zr_law_rows.proofs.OnLiterals.{scripts_on_literals}
use Rattle.zr_law_rows.proofs.texts.contents_are_told.Goals as goal

pub returns : goal.returns
unfolding scripts_on_literals
returns c = record { put = refl; put_along = refl; del = refl; get_best = refl; get_all = refl; get_complete = refl; get_latest = refl; reply = refl; reply_timed = refl; reply_deletes = refl; reply_fails = refl; final = refl }
