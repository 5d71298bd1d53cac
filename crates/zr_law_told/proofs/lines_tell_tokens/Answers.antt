use Rattle.zr_law_told.proofs.Tokens as law
use Rattle.zr_law_told.proofs.lines_tell_tokens.Goals as goal

pub returns : goal.returns
returns c = law.lines_tell_tokens
