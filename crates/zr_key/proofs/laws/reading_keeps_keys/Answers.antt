use Rattle.zr_key.proofs.Reading.{reading_keeps}
use Rattle.zr_key.proofs.laws.reading_keeps_keys.Goals as goal

pub returns : goal.returns
returns c text canonical e spells read key = reading_keeps text canonical e spells read key
