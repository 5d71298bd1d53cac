use Rattle.zr_law_samples.proofs.KeyTexts.{answering_is_covering}
use Rattle.zr_law_samples.proofs.keys.answering_is_covering.Goals as goal

pub returns : goal.returns
returns c = answering_is_covering
