use Rattle.std.proofs.Common.{◌≡◌, Bool, true, false, [], ◌∷◌, ◌++◌, sym, ap, subst, ◌∙◌, arith}
use Rattle.zr_id.specs.Record.{LinkedState, is_before}
use Rattle.zr_node_spec.proofs.Kept.{kept_more, kept_past}
use Rattle.zr_node.proofs.own.push_above.Goals.{then-is_before+in_ok-push, else-is_before}
use Rattle.zr_node.proofs.own.push_above.Goals as goal

pub loop-link-preserved : goal.loop-link-preserved
loop-link-preserved c =
    let test : LinkedState → Bool = λ k. is_before c.args.id.now k.id in
    elim c.if-is_before.branch [
      | then-is_before+in_ok-push w ↦
          kept_more test c.args.all.now.items c.args.links.now c.loop-link.link-index c.link-item.result _ _ (omega arith) (subst (λ (k : LinkedState). test k ≡ true) c.link-item.is (sym (ap test c.link.view_is) ∙ sym c.is_before.ensures ∙ w.if-is_before.true))
          (ap (λ v. v.items) w.all-is ∙ w.in_ok-push.ensures.items ∙ ap (λ (k : LinkedState). c.loop-link.all.items ++ k ∷ []) (c.link.view_is ∙ c.link-item.is)) c.loop-link.invariant
      | else-is_before w ↦
          kept_past test c.args.all.now.items c.args.links.now c.loop-link.link-index c.link-item.result _ _ (omega arith) (subst (λ (k : LinkedState). test k ≡ false) c.link-item.is (sym (ap test c.link.view_is) ∙ sym c.is_before.ensures ∙ w.if-is_before.false))
          (ap (λ v. v.items) w.all-is) c.loop-link.invariant
    ]
