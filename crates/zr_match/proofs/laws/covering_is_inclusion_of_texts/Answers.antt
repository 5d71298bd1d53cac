use Rattle.zr_match.specs.Table.{texts_cover}
use Rattle.zr_match.proofs.Right.{covers_right}
use Rattle.zr_match.proofs.Inclusion.{covered_matches}
use Rattle.zr_key.specs.Key.{expression_of}
use Rattle.zr_match.proofs.TextInclusion.{texts_covered}
use Rattle.zr_match.proofs.laws.covering_is_inclusion_of_texts.Goals as goal

pub returns : goal.returns
unfolding texts_cover
returns c a b p q gaps =
    let right = covers_right a b in
    (λ t key k u m. covered_matches (expression_of a) (expression_of b) (right.0 t) key m, λ included. right.1 (texts_covered a b p q gaps included))
