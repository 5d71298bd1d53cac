use Rattle.zr_format_spec.proofs.Follows.{written_is_read}
use Rattle.zr_trans.specs.Writing.{writes_trans, HasFields}
use Rattle.zr_trans.proofs.Messages.{follows_trans}
use Rattle.zr_trans.proofs.Written.{message_spelled, message_fits}
use Rattle.zr_trans.proofs.laws.written_messages_are_read.Goals as goal

pub returns : goal.returns
returns c = record { again = written_is_read _ _ _ (λ t. t) writes_trans HasFields follows_trans message_spelled; fits = message_fits }
