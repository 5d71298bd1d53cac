use Rattle.zr_format_spec.proofs.Follows.{format_is_read}
use Rattle.zr_oam.proofs.Messages.{follows_oam}
use Rattle.zr_oam.proofs.laws.oam_is_read.Goals as goal

pub returns : goal.returns
returns c = format_is_read _ _ _ follows_oam
