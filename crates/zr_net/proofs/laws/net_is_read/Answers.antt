use Rattle.zr_format_spec.proofs.Follows.{format_is_read}
use Rattle.zr_net.proofs.Messages.{follows_net}
use Rattle.zr_net.proofs.laws.net_is_read.Goals as goal

pub returns : goal.returns
returns c role theirs ours = format_is_read _ _ _ (follows_net role theirs ours)
