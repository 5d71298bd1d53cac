use Rattle.std.proofs.Common.{sym, subst, ap}
use Rattle.std.specs.Prelude.{option_and_then}
use Rattle.zr_top_words.specs.Asked.{asked_by}
use Rattle.zr_top_words.specs.Read.{PlansOf}
use Rattle.zr_top_words.proofs.Rows.{met, none_met}
use Rattle.zr_top_words.proofs.reading.plan_of.Goals as goal

pub returns-in-Some-clause-plan : goal.returns-in-Some-clause-plan
returns-in-Some-clause-plan c =
    subst (λ f. PlansOf (option_and_then asked_by f) c.plan_by.result) (sym (met c.args.matches.now _ _ c.in-Some.ensures.name c.in-Some.ensures.rows))
    c.plan_by.ensures.plan

pub returns-in-None-clause-plan : goal.returns-in-None-clause-plan
returns-in-None-clause-plan c = ap (option_and_then asked_by) (none_met c.args.matches.now c.in-None.ensures.name)
