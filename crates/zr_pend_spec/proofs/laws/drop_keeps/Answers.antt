use Rattle.zr_pend_spec.proofs.Sound.{dropped_sound}
use Rattle.zr_pend_spec.proofs.laws.drop_keeps.Goals as goal

pub returns : goal.returns
returns c = dropped_sound
