use Rattle.zr_law_rounds.proofs.Shares as law
use Rattle.zr_law_rounds.proofs.rounds_go.Goals as goal

pub returns : goal.returns
returns c = law.all_go_on
