use Rattle.zr_told_spec.proofs.Hubs.{heard_on}
use Rattle.zr_told_spec.proofs.laws.heard_on.Goals as goal

pub returns : goal.returns
returns c = heard_on
