use Rattle.zr_pend_spec.proofs.Dropped.{gone}
use Rattle.zr_pend_spec.proofs.laws.dropped_links_are_gone.Goals as goal

pub returns : goal.returns
returns c = gone
