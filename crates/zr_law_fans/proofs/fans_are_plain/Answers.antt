use Rattle.zr_law_fans.proofs.Plain as law
use Rattle.zr_law_fans.proofs.fans_are_plain.Goals as goal

pub returns : goal.returns
returns c = law.fans_are_plain
