use Rattle.std.proofs.Common.{IfOk, false, subst}
use Rattle.zr_told.specs.Plan.{IsPlan}
use Rattle.zr_told_spec.specs.Rows.{map_on, others}
use Rattle.zr_told_spec.specs.Wanted.{wanted}
use Rattle.zr_told.proofs.told.Told.plan_all.Goals as goal

pub returns-clause-plan : goal.returns-clause-plan
returns-clause-plan c =
    let m = map_on c.args.self.now c.args.client.now.link.0 in
    let ds = others c.args.tables.now c.args.client.now.link.0 in
    subst (λ z. IfOk c.plan_changes.result (λ p. IsPlan (λ q. false) (wanted ds z) m p)) c.as_slice-interests.ensures.value c.plan_changes.ensures.plan
