use Rattle.std.proofs.Common.{◌≡◌, not, Bool, true, false, [], ◌∷◌, ◌++◌, sym, ap, subst, ◌∙◌, arith}
use Rattle.zr_id.specs.Record.{LinkedState}
use Rattle.zr_id.specs.Zid.{is_named}
use Rattle.zr_node_spec.proofs.Kept.{kept_more, kept_past}
use Rattle.zr_node.proofs.own.without_linked.Goals.{then-is_other+in_ok-push, else-is_other}
use Rattle.zr_node.proofs.own.without_linked.Goals as goal

pub loop-link-preserved : goal.loop-link-preserved
loop-link-preserved c =
    let test : LinkedState → Bool = λ k. not (is_named k.id c.args.id.now) in
    elim c.if-is_other.branch [
      | then-is_other+in_ok-push w ↦
          kept_more test [] c.args.links.now c.loop-link.link-index c.link-item.result _ _ (omega arith) (subst (λ (k : LinkedState). test k ≡ true) c.link-item.is (sym (ap test c.link.view_is) ∙ sym c.is_other.ensures ∙ w.if-is_other.true))
          (ap (λ v. v.items) w.rest-is ∙ w.in_ok-push.ensures.items ∙ ap (λ (k : LinkedState). c.loop-link.rest.items ++ k ∷ []) (c.link.view_is ∙ c.link-item.is)) c.loop-link.invariant
      | else-is_other w ↦
          kept_past test [] c.args.links.now c.loop-link.link-index c.link-item.result _ _ (omega arith) (subst (λ (k : LinkedState). test k ≡ false) c.link-item.is (sym (ap test c.link.view_is) ∙ sym c.is_other.ensures ∙ w.if-is_other.false))
          (ap (λ v. v.items) w.rest-is) c.loop-link.invariant
    ]
