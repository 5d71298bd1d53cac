use Rattle.zr_law_fans.proofs.Calm as law
use Rattle.zr_law_fans.proofs.scripts_are_calm.Goals as goal

pub returns : goal.returns
returns c = law.scripts_are_calm
