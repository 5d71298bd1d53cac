use Rattle.std.proofs.Common.{◌∙◌, [], Some, ap}
use Rattle.std.specs.Prelude.{codes, unwrap_or}
use Rattle.std.proofs.lemmas.Result.{IfOk-weaker}
use Rattle.clap.proofs.WalkLemmas.{raw_values-rows}
use Rattle.clap.specs.Matches.{found_of}
use Rattle.zr_top_words.specs.Asked.{dials_of}
use Rattle.zr_top_words.proofs.reading.dials_at.Goals as goal

pub returns-in-Some : goal.returns-in-Some
returns-in-Some c =
    IfOk-weaker c.read_dials.result _ _
    (λ dials h. h ∙ ap (λ o. dials_of (unwrap_or o [])) (c.in-Some.ensures ∙ raw_values-rows (found_of c.args.options.now) (codes "dial"))) c.read_dials.ensures

pub returns-in-None : goal.returns-in-None
returns-in-None c =
    ap Some c.new.ensures.items
    ∙ ap (λ o. dials_of (unwrap_or o [])) (c.in-None.ensures ∙ raw_values-rows (found_of c.args.options.now) (codes "dial"))
