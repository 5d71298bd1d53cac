use Rattle.zr_format_spec.proofs.Follows.{one_reading}
use Rattle.zr_trans.proofs.Messages.{follows_trans}
use Rattle.zr_trans.proofs.laws.messages_have_one_reading.Goals as goal

pub returns : goal.returns
returns c = one_reading _ _ _ follows_trans
