use Rattle.zr_told_spec.proofs.Events.{told_is_wanted}
use Rattle.zr_told_spec.proofs.laws.told_is_wanted.Goals as goal

pub returns : goal.returns
returns c = told_is_wanted
