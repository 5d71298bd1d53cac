use Rattle.std.proofs.Common.{IfOk, false, subst, ◌∙◌}
use Rattle.zr_told.specs.Plan.{IsPlan}
use Rattle.zr_told_spec.specs.Rows.{map_on}
use Rattle.zr_told_spec.specs.Wanted.{wanted}
use Rattle.zr_told.proofs.told.Told.plan_changes.Goals as goal

pub returns-clause-plan : goal.returns-clause-plan
returns-clause-plan c =
    subst (λ z. IfOk c.plan.result (λ p. IsPlan (λ q. false) (wanted z c.args.interests.now) (map_on c.args.self.now c.args.link.0) p)) (c.deref.ensures.value ∙ c.in_ok-others.ensures) c.plan.ensures.plan
