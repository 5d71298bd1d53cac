use Rattle.std.proofs.Common.{Some}
use Rattle.zr_format_spec.proofs.Follows.{written_is_read}
use Rattle.zr_oam.specs.Writing.{writes_oam, CanBeWritten}
use Rattle.zr_oam.proofs.Messages.{follows_oam}
use Rattle.zr_oam.proofs.Written.{message_spelled}
use Rattle.zr_oam.proofs.laws.written_oam_is_read.Goals as goal

pub returns : goal.returns
returns c = written_is_read _ _ _ (λ m. Some m) writes_oam CanBeWritten follows_oam message_spelled
