use Rattle.zr_match.specs.Table.{texts_meet, texts_cover}
use Rattle.zr_match.proofs.Right.{meets_right, covers_right}
use Rattle.zr_match.proofs.laws.tests_are_right.Goals as goal

pub returns : goal.returns
unfolding texts_meet texts_cover
returns c a b p q = (meets_right a b p q, covers_right a b)
