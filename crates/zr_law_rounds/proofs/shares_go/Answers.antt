use Rattle.zr_law_rounds.proofs.Shares as law
use Rattle.zr_law_rounds.proofs.shares_go.Goals as goal

pub returns : goal.returns
returns c = law.each_goes
