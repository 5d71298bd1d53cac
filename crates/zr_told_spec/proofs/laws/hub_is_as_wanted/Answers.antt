use Rattle.zr_told_spec.proofs.Hubs.{hub_is_as_wanted}
use Rattle.zr_told_spec.proofs.laws.hub_is_as_wanted.Goals as goal

pub returns : goal.returns
returns c = hub_is_as_wanted
