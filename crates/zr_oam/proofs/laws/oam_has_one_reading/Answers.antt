use Rattle.zr_format_spec.proofs.Follows.{one_reading_anywhere}
use Rattle.zr_oam.proofs.Messages.{follows_oam}
use Rattle.zr_oam.proofs.laws.oam_has_one_reading.Goals as goal

pub returns : goal.returns
returns c = one_reading_anywhere _ _ follows_oam
