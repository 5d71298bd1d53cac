use Rattle.zr_told_spec.proofs.Hubs.{hub_keeps}
use Rattle.zr_told_spec.proofs.laws.hub_keeps.Goals as goal

pub returns : goal.returns
returns c = hub_keeps
