use Rattle.zr_key.proofs.Reading.{is_reading}
use Rattle.zr_key.proofs.laws.reading_is_canonical.Goals as goal

pub returns : goal.returns
returns c = is_reading
