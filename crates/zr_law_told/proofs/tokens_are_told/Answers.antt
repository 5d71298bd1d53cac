use Rattle.zr_law_told.proofs.Tokens as law
use Rattle.zr_law_told.proofs.tokens_are_told.Goals as goal

pub returns : goal.returns
returns c = law.tokens_are_told
