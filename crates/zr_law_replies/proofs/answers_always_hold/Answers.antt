use Rattle.zr_law_replies.proofs.Every as law
use Rattle.zr_law_replies.proofs.answers_always_hold.Goals as goal

pub returns : goal.returns
returns c = law.answers_always_hold
