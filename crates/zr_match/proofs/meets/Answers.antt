use Rattle.std.proofs.Common.{◌∙◌, sym}
use Rattle.zr_match.specs.Table.{texts_meet}
use Rattle.zr_match.proofs.Right.{meets_right}
use Rattle.zr_match.proofs.meets.Goals as goal

pub returns-clause-test : goal.returns-clause-test
unfolding texts_meet
returns-clause-test c = c.compare_texts.ensures.test

pub returns-clause-meaning : goal.returns-clause-meaning
returns-clause-meaning c =
    let right = meets_right c.args.a.now c.args.b.now c.compare_texts.ensures.first_is c.compare_texts.ensures.second_is in
    (λ t. right.0 (sym c.compare_texts.ensures.test ∙ t), λ m. c.compare_texts.ensures.test ∙ right.1 m)
