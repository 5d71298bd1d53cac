use Rattle.std.proofs.Common.{◌∙◌, sym}
use Rattle.zr_match.specs.Table.{texts_cover}
use Rattle.zr_match.proofs.Right.{covers_right}
use Rattle.zr_match.proofs.covers.Goals as goal

pub returns-clause-test : goal.returns-clause-test
unfolding texts_cover
returns-clause-test c = c.compare_texts.ensures.test

pub returns-clause-meaning : goal.returns-clause-meaning
returns-clause-meaning c =
    let right = covers_right c.args.a.now c.args.b.now in
    (λ t. right.0 (sym c.compare_texts.ensures.test ∙ t), λ m. c.compare_texts.ensures.test ∙ right.1 m)
