use Rattle.zr_told_spec.proofs.Hubs.{hub_forgets}
use Rattle.zr_told_spec.proofs.laws.hub_forgets.Goals as goal

pub returns : goal.returns
returns c = hub_forgets
