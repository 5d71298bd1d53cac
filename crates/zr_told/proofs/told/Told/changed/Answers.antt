use Rattle.std.proofs.Common.{◌==◌, ◌++◌, cond, false, None, ap, subst, ◌∙◌}
use Rattle.std.proofs.lemmas.Result.{err_from_is_err_and}
use Rattle.zr_lists.specs.Prefix.{IsPrefixBehind}
use Rattle.zr_told_spec.specs.Rows.{map_on, others, sent_on}
use Rattle.zr_told_spec.specs.Wanted.{wanted}
use Rattle.zr_told.proofs.Calls.{all_told, without_memory}
use Rattle.zr_told.proofs.Plans.{plan_told, plan_tells}
use Rattle.zr_told.proofs.told.Told.changed.Goals as goal

pub returns : goal.returns
returns c =
    let told = plan_told (λ p. false) (wanted (others c.args.tables.now c.args.link.0) c.args.interests.now) (map_on c.args.self.now c.args.link.0) c.in_ok-plan.plan c.in_ok-plan.ensures.plan in
    let tells = plan_tells (λ p. false) (wanted (others c.args.tables.now c.args.link.0) c.args.interests.now) (map_on c.args.self.now c.args.link.0) c.in_ok-plan.plan None c.in_ok-plan.ensures.plan in
    all_told
    (λ k. c.in_ok-tell.ensures.map k ∙ ap (λ z. cond (c.args.link.0 == k) z (map_on c.args.self.now k)) told)
    (c.in_ok-tell.ensures.out ∙ ap (λ z. c.args.out.now.items ++ sent_on c.args.link z) tells)
    c.in_ok-plan.ensures.ids

pub returns-in_err-tell : goal.returns-in_err-tell
returns-in_err-tell c =
    let p = err_from_is_err_and c.from_residual-in_err-tell.result c.from_residual-in_err-tell.ensures.1 in
    let t = plan_tells (λ p. false) (wanted (others c.args.tables.now c.args.link.0) c.args.interests.now) (map_on c.args.self.now c.args.link.0) c.in_ok-plan.plan None c.in_ok-plan.ensures.plan in
    rw p.1 (without_memory p.0 p.2 (subst (λ z. IsPrefixBehind c.args.out.now.items (sent_on c.args.link z) c.tell.new.out.items) t c.in_err-tell.ensures.err))
