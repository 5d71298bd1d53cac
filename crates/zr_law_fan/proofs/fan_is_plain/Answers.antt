use Rattle.zr_law_fan.proofs.Plain as law
use Rattle.zr_law_fan.proofs.fan_is_plain.Goals as goal

pub returns : goal.returns
returns c = law.fan_is_plain
