use Rattle.std.proofs.Common.{◌∙◌, ap}
use Rattle.std.proofs.lemmas.Result.{IfOk-weaker}
use Rattle.clap.specs.Simple.{App, app_of_fields}
use Rattle.zr_top_words.proofs.Rows.{adds}
use Rattle.zr_top_words.proofs.commands.net.Goals as goal

pub returns : goal.returns
returns c =
    let none = ap app_of_fields c.about.ensures ∙ c.new.ensures.app in
    let one = adds c.in_ok-arg.ensures c.flag.ensures.local none c.flag.ensures.rule in
    let two = adds c.in_ok-arg-2.ensures c.flag-2.ensures.local one c.flag-2.ensures.rule in
    IfOk-weaker c.arg-3.result _ _ (λ r h. ap (λ (a : App). a.top) (adds h c.optional.ensures.local two c.optional.ensures.rule)) c.arg-3.ensures
