use Rattle.zr_format_spec.proofs.Follows.{one_reading_anywhere}
use Rattle.zr_decl.proofs.Messages.{follows_message}
use Rattle.zr_decl.proofs.laws.declarations_have_one_reading.Goals as goal

pub returns : goal.returns
returns c theirs ours = one_reading_anywhere _ _ (follows_message theirs ours)
