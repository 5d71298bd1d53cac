use Rattle.zr_told_spec.proofs.Events.{wanted_is_listed}
use Rattle.zr_told_spec.proofs.laws.wanted_is_listed.Goals as goal

pub returns : goal.returns
returns c = wanted_is_listed
