use Rattle.zr_law_samples.proofs.Settled.{tables_are_settled}
use Rattle.zr_law_replies.proofs.Refined as law
use Rattle.zr_law_replies.proofs.lines_refine.Goals as goal

pub returns : goal.returns
returns c = law.lines_refine tables_are_settled
