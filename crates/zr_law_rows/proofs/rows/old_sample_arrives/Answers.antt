use Rattle.std.proofs.Common.{refl}
use Rattle.zr_law_rows.proofs.OnLiterals.{scripts_on_literals}
use Rattle.zr_law_rows.proofs.rows.old_sample_arrives.Goals as goal

pub returns : goal.returns
unfolding scripts_on_literals
returns c = record { sent_is = refl; of_phase = refl; due_is = refl }
