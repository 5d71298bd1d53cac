use Rattle.zr_law_histories.proofs.Packing as law
use Rattle.zr_law_histories.proofs.queues_are_packed.Goals as goal

pub returns : goal.returns
returns c = law.queues_are_packed
