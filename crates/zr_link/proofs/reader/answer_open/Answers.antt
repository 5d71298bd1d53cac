-- The answer to OPEN is written behind what was answered before.
use Rattle.std.proofs.Common.{◌∙◌, [], inl, inr, refl}
use Rattle.zr_outside.proofs.Appending.{prefix_none, prefix_more}
use Rattle.zr_link.proofs.reader.answer_open.Goals as goal

pub returns-in_default-clause-part : goal.returns-in_default-clause-part
returns-in_default-clause-part g c = inr (prefix_none _ _, inr refl)

pub returns-in-Ok-write_all-clause-wrote : goal.returns-in-Ok-write_all-clause-wrote
returns-in-Ok-write_all-clause-wrote g c = rw (c.answers.ensures ∙ c.in-Ok.ensures.behind) at c.in-Ok-write_all.ensures.ok

pub returns-in-Err-clause-part : goal.returns-in-Err-clause-part
returns-in-Err-clause-part g c =
    inr (prefix_more _ [] _ _ (rw (c.answers.ensures ∙ c.in-Ok.ensures.behind) at c.in-Err.ensures.err), inl c.in-Err.ensures.cause)
