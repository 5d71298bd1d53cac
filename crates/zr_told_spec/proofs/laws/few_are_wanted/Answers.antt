use Rattle.zr_told_spec.proofs.Few.{few_are_wanted}
use Rattle.zr_told_spec.proofs.laws.few_are_wanted.Goals as goal

pub returns : goal.returns
returns c = few_are_wanted
