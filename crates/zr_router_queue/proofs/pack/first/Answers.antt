-- What is left is seen message by message: one for another link changes nothing, and the first one for the link is found.
use Rattle.std.proofs.Common.{rules, ◌≡◌, ◌+◌, List, ◌∷◌, drop, ap, sym, ◌∙◌}
use Rattle.std.proofs.lemmas.List.{at_drop_more}
use Rattle.zr_id.specs.declared.link.LinkNo.{LinkNo}
use Rattle.zr_msg.specs.declared.msg.Msg.{Msg}
use Rattle.zr_node_spec.specs.Event.{on_link}
use Rattle.zr_router_queue.proofs.Plans.{on_next, on_other}
use Rattle.zr_router_queue.proofs.pack.first.Goals as goal

pub returns-then-to-link : goal.returns-then-to-link
returns-then-to-link c =
    let x : LinkNo × Msg = c.loop-to-item.result in
    let rest : List (LinkNo × Msg) = drop (c.loop-to.to-index + 1) c.args.sent.now in
    let here : on_link c.args.link (drop c.loop-to.to-index c.args.sent.now) ≡ on_link c.args.link (x ∷ rest) =
    at_drop_more (λ z. on_link c.args.link z) c.args.sent.now c.loop-to.to-index x c.loop-to-test.true ∙ ap (λ y. on_link c.args.link (y ∷ rest)) (sym c.loop-to-item.is) in
    (on_link c.args.link rest, sym c.loop-to.invariant ∙ here ∙ on_next c.args.link x rest (search rules))

pub loop-to-preserved : goal.loop-to-preserved
loop-to-preserved c =
    let x : LinkNo × Msg = c.loop-to-item.result in
    let rest : List (LinkNo × Msg) = drop (c.loop-to.to-index + 1) c.args.sent.now in
    let here : on_link c.args.link (drop c.loop-to.to-index c.args.sent.now) ≡ on_link c.args.link (x ∷ rest) =
    at_drop_more (λ z. on_link c.args.link z) c.args.sent.now c.loop-to.to-index x c.loop-to-test.true ∙ ap (λ y. on_link c.args.link (y ∷ rest)) (sym c.loop-to-item.is) in
    sym (here ∙ on_other c.args.link x rest (search rules)) ∙ c.loop-to.invariant
