use Rattle.zr_format_spec.proofs.Follows.{format_is_read}
use Rattle.zr_trans.proofs.Messages.{follows_trans}
use Rattle.zr_trans.proofs.laws.messages_are_read.Goals as goal

pub returns : goal.returns
returns c = format_is_read _ _ _ follows_trans
