use Rattle.zr_open.proofs.Opens.{routers_open}
use Rattle.zr_open.proofs.laws.routers_open_with_each_other.Goals as goal

pub returns : goal.returns
returns c = routers_open
