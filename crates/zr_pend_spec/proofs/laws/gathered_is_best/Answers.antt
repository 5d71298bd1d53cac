use Rattle.zr_pend_spec.proofs.Best.{law}
use Rattle.zr_pend_spec.proofs.laws.gathered_is_best.Goals as goal

pub returns : goal.returns
returns c = law
