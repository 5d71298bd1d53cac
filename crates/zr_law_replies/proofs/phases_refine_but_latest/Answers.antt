use Rattle.zr_law_samples.proofs.Settled.{tables_are_settled}
use Rattle.zr_law_replies.proofs.Refined as law
use Rattle.zr_law_replies.proofs.phases_refine_but_latest.Goals as goal

pub returns : goal.returns
returns c = law.phases_refine_but_latest tables_are_settled
