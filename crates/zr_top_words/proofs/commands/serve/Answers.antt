use Rattle.std.proofs.Common.{◌∙◌, ap}
use Rattle.std.proofs.lemmas.Result.{IfOk-weaker}
use Rattle.clap.specs.Simple.{App, app_of_fields}
use Rattle.zr_top_words.proofs.Rows.{adds}
use Rattle.zr_top_words.proofs.commands.serve.Goals as goal

pub returns : goal.returns
returns c =
    let none = ap app_of_fields c.about.ensures ∙ c.new.ensures.app in
    let one = adds c.in_ok-arg.ensures c.optional.ensures.local none c.optional.ensures.rule in
    let two = adds c.in_ok-arg-2.ensures c.wanted.ensures.local one c.wanted.ensures.rule in
    let three = adds c.in_ok-arg-3.ensures c.flag.ensures.local two c.flag.ensures.rule in
    let four = adds c.in_ok-arg-4.ensures c.flag-2.ensures.local three c.flag-2.ensures.rule in
    let five = adds c.in_ok-arg-5.ensures c.flag-3.ensures.local four c.flag-3.ensures.rule in
    let six = adds c.in_ok-arg-6.ensures c.flag-4.ensures.local five c.flag-4.ensures.rule in
    IfOk-weaker c.arg-7.result _ _ (λ r h. ap (λ (a : App). a.top) (adds h c.words_beside.ensures.local six c.words_beside.ensures.rule)) c.arg-7.ensures
