use Rattle.zr_law_samples.proofs.KeyTexts.{keys_are_texts}
use Rattle.zr_law_samples.proofs.keys.keys_are_texts.Goals as goal

pub returns : goal.returns
returns c = keys_are_texts
