use Rattle.zr_law_samples.proofs.Final as law
use Rattle.zr_law_samples.proofs.Settled.{tables_are_settled}
use Rattle.zr_law_samples.proofs.refines.phases_deliver.Goals as goal

pub returns : goal.returns
returns c = law.phases_deliver tables_are_settled
