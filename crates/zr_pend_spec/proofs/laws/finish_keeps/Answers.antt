use Rattle.zr_pend_spec.proofs.Sound.{finished_sound}
use Rattle.zr_pend_spec.proofs.laws.finish_keeps.Goals as goal

pub returns : goal.returns
returns c = finished_sound
