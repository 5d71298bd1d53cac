use Rattle.zr_format_spec.proofs.Follows.{one_reading_anywhere}
use Rattle.zr_net.proofs.Messages.{follows_net}
use Rattle.zr_net.proofs.laws.net_has_one_reading.Goals as goal

pub returns : goal.returns
returns c role theirs ours = one_reading_anywhere _ _ (follows_net role theirs ours)
