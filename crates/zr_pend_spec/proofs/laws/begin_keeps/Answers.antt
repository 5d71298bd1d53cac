use Rattle.zr_pend_spec.proofs.Sound.{begun_sound}
use Rattle.zr_pend_spec.proofs.laws.begin_keeps.Goals as goal

pub returns : goal.returns
returns c = begun_sound
