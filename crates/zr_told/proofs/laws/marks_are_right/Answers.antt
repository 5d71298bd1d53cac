use Rattle.zr_told.proofs.Marked.{marks_right}
use Rattle.zr_told.proofs.laws.marks_are_right.Goals as goal

pub returns : goal.returns
returns c = marks_right
