use Rattle.zr_format_spec.proofs.Follows.{format_is_read}
use Rattle.zr_decl.proofs.Messages.{follows_message}
use Rattle.zr_decl.proofs.laws.declarations_are_read.Goals as goal

pub returns : goal.returns
returns c theirs ours = format_is_read _ _ _ (follows_message theirs ours)
