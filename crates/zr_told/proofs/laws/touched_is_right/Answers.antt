use Rattle.zr_told.proofs.Touches.{touched_is_right}
use Rattle.zr_told.proofs.laws.touched_is_right.Goals as goal

pub returns : goal.returns
returns c = touched_is_right
