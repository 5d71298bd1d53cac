use Rattle.std.proofs.Common.{◌∙◌, ◌^◌, ap}
use Rattle.std.specs.Prelude.{option_and_then}
use Rattle.zr_top_words.specs.Asked.{number_below}
use Rattle.zr_top_words.proofs.reading.count_at.Goals as goal

pub returns-in-Some : goal.returns-in-Some
returns-in-Some c =
    c.count.ensures ∙ ap (number_below (2 ^ 32)) c.as_bytes.ensures.value ∙ ap (option_and_then (number_below (2 ^ 32))) c.in-Some.ensures

pub returns-in-None : goal.returns-in-None
returns-in-None c = ap (option_and_then (number_below (2 ^ 32))) c.in-None.ensures
