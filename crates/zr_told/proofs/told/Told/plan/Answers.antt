use Rattle.std.proofs.Common.{IfOk, subst}
use Rattle.std.specs.Option.{option_copied}
use Rattle.zr_told.specs.Plan.{IsPlan, is_answered}
use Rattle.zr_told_spec.specs.Wanted.{wanted}
use Rattle.zr_told.proofs.Links.{book_on, no_book_on}
use Rattle.zr_told.proofs.told.Told.plan.Goals as goal

pub returns-in-Some-clause-plan : goal.returns-in-Some-clause-plan
returns-in-Some-clause-plan c =
    subst (λ z. IfOk c.plan_of.result (λ p. IsPlan (is_answered c.args.others.now (option_copied c.args.answered)) (wanted c.args.others.now c.args.interests.now) z p))
    (book_on _ _ c.args.link.0 _ c.in-Some.ensures.value c.self.view_is) c.plan_of.ensures.plan

pub returns-in-None-clause-plan : goal.returns-in-None-clause-plan
returns-in-None-clause-plan c =
    subst (λ z. IfOk c.plan_of-in-None-2.result (λ p. IsPlan (is_answered c.args.others.now (option_copied c.args.answered)) (wanted c.args.others.now c.args.interests.now) z p))
    (no_book_on _ _ c.args.link.0 _ c.new.ensures c.in-None.ensures.value c.self.view_is) c.plan_of-in-None-2.ensures.plan
