use Rattle.std.proofs.Common.{◌∙◌, ap, Some}
use Rattle.zr_top_words.specs.Asked.{threads_of}
use Rattle.zr_top_words.proofs.reading.threads_at.Goals as goal

pub returns-in-Some-clause-number : goal.returns-in-Some-clause-number
returns-in-Some-clause-number c = c.threads.ensures.number ∙ ap (λ w. threads_of (Some w)) c.as_bytes.ensures.value ∙ ap threads_of c.in-Some.ensures

pub returns-in-None-clause-number : goal.returns-in-None-clause-number
returns-in-None-clause-number c = ap threads_of c.in-None.ensures
