use Rattle.std.proofs.Common.{◌≡◌, Bool, true, false, List, [], ◌∷◌, ◌++◌, ap, subst, ◌∙◌, sym, arith}
use Rattle.zr_id.specs.declared.link.LinkNo.{LinkNo}
use Rattle.zr_msg.specs.declared.peer.LinkPeer.{LinkPeer}
use Rattle.zr_lists.proofs.Prefixes.{along_picked, along_passed}
use Rattle.zr_flood.specs.Tell.{leads_to_own_child, children_among}
use Rattle.zr_flood.proofs.children.child_links.Goals.{then-leads_to_child+in_ok-push, else-leads_to_child}
use Rattle.zr_flood.proofs.children.child_links.Goals as goal

pub loop-link-preserved : goal.loop-link-preserved
loop-link-preserved c =
    let test : LinkPeer → Bool = λ l. leads_to_own_child c.args.family.now c.args.root l in
    let said_of : LinkPeer → LinkNo = λ l. l.link in
    let said : List LinkNo = children_among c.args.links.now c.args.family.now c.args.root in
    elim c.if-leads_to_child.branch [
      | then-leads_to_child+in_ok-push w ↦
          along_picked test said_of [] said c.args.links.now c.loop-link.link-index c.link-item.result c.loop-link.to.items c.if-leads_to_child.to.items
          (omega arith) (subst (λ (l : LinkPeer). test l ≡ true) c.link-item.is (sym c.leads_to_child.ensures ∙ w.if-leads_to_child.true))
          (ap (λ v. v.items) w.to-is ∙ w.in_ok-push.ensures.items ∙ ap (λ (l : LinkPeer). c.loop-link.to.items ++ l.link ∷ []) c.link-item.is)
          c.loop-link.invariant
      | else-leads_to_child w ↦
          along_passed test said_of [] said c.args.links.now c.loop-link.link-index c.link-item.result c.loop-link.to.items c.if-leads_to_child.to.items
          (omega arith) (subst (λ (l : LinkPeer). test l ≡ false) c.link-item.is (sym c.leads_to_child.ensures ∙ w.if-leads_to_child.false))
          (ap (λ v. v.items) w.to-is) c.loop-link.invariant
    ]
