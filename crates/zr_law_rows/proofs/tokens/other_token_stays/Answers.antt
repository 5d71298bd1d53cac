use Rattle.std.proofs.Common.{refl}
use Rattle.zr_law_rows.proofs.OnLiterals.{scripts_on_literals}
use Rattle.zr_law_rows.proofs.tokens.other_token_stays.Goals as goal

pub returns : goal.returns
unfolding scripts_on_literals
returns c = record { report_is = refl; number_is = refl; refusal_is = refl }
