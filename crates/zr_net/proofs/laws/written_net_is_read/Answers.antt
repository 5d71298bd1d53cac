use Rattle.zr_format_spec.proofs.Follows.{written_is_read}
use Rattle.zr_decl.specs.declared.declared.Declared.TheVariants.{Told}
use Rattle.zr_net.specs.Writing.{writes_net, CanBeSent}
use Rattle.zr_net.proofs.Messages.{follows_net}
use Rattle.zr_net.proofs.Written.{message_spelled}
use Rattle.zr_net.proofs.laws.written_net_is_read.Goals as goal

pub returns : goal.returns
returns c role theirs ours number = written_is_read _ _ _ (λ m. Told m) (λ m. writes_net m number) (CanBeSent role theirs number) (follows_net role theirs ours) (message_spelled role theirs ours number)
