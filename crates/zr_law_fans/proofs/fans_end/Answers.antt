use Rattle.zr_law_fans.proofs.Ends as law
use Rattle.zr_law_fans.proofs.fans_end.Goals as goal

pub returns : goal.returns
returns c = law.fans_end
