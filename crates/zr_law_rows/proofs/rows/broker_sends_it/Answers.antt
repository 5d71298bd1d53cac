use Rattle.std.proofs.Common.{refl}
use Rattle.zr_law_rows.proofs.OnLiterals.{scripts_on_literals}
use Rattle.zr_law_rows.proofs.rows.broker_sends_it.Goals as goal

pub returns : goal.returns
unfolding scripts_on_literals
returns c = record { accepted_is = refl; for_subscriber = refl; for_publisher = refl; of_subscriber = refl; subscriber_sent = refl; publisher_sent = refl; quiet_at_end = refl }
