use Rattle.std.proofs.Common.{refl}
use Rattle.zr_local.proofs.Sound.{sound_none}
use Rattle.zr_local.proofs.local.Local.new.Goals as goal

pub invariant_of-result : goal.invariant_of-result
invariant_of-result c = rw (c.new.ensures.items, c.new-2.ensures, c.new-3.ensures) (sound_none, refl)
