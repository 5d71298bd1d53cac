-- What is left is seen message by message: one for another link changes nothing, and the first one for the link is the only one so far.
use Rattle.std.proofs.Common.{rules, ◌≡◌, ◌+◌, List, ◌∷◌, drop, Some, None, ap, sym, ◌∙◌}
use Rattle.std.proofs.lemmas.List.{at_drop_more}
use Rattle.zr_id.specs.declared.link.LinkNo.{LinkNo}
use Rattle.zr_msg.specs.declared.msg.Msg.{Msg}
use Rattle.zr_node_spec.specs.Event.{on_link}
use Rattle.zr_router_queue.proofs.Plans.{droppable_from, droppable_one, droppable_other}
use Rattle.zr_router_queue.proofs.plan.is_droppable.Goals.{then-to-link+else-is_some, else-to-link}
use Rattle.zr_router_queue.proofs.plan.is_droppable.Goals as goal

pub loop-to-preserved : goal.loop-to-preserved
loop-to-preserved c =
    let x : LinkNo × Msg = c.loop-to-item.result in
    let rest : List (LinkNo × Msg) = drop (c.loop-to.to-index + 1) c.args.sent.now in
    let here : on_link c.args.link (drop c.loop-to.to-index c.args.sent.now) ≡ on_link c.args.link (x ∷ rest) =
    at_drop_more (λ l. on_link c.args.link l) c.args.sent.now c.loop-to.to-index x c.loop-to-test.true ∙ ap (λ y. on_link c.args.link (y ∷ rest)) (sym c.loop-to-item.is) in
    let was = ap (λ messages. droppable_from c.loop-to.only messages) (sym here) ∙ c.loop-to.invariant in
    elim c.if-to-link.branch [
      | then-to-link+else-is_some w ↦
          let none : c.loop-to.only ≡ None = search rules in
          ap (λ o. droppable_from o (on_link c.args.link rest)) w.only-is ∙ ap (λ b. droppable_from (Some b) (on_link c.args.link rest)) w.may_drop.ensures
          ∙ droppable_one c.args.link x rest (search rules)
          ∙ ap (λ o. droppable_from o (on_link c.args.link (x ∷ rest))) (sym none) ∙ was
      | else-to-link w ↦
          ap (λ o. droppable_from o (on_link c.args.link rest)) w.only-is ∙ droppable_other c.loop-to.only c.args.link x rest (search rules) ∙ was
    ]
