use Rattle.zr_bytes.proofs.Numbers.{one_reading}
use Rattle.zr_bytes.proofs.Texts.{one_text}
use Rattle.zr_bytes.proofs.laws.have_one_reading.Goals as goal

pub returns : goal.returns
returns c = record { numbers = one_reading; texts = one_text }
