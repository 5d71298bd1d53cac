use Rattle.std.proofs.Common.{[], ◌∷◌, ◌++◌, sym, ap, ◌∙◌}
use Rattle.zr_router_queue.specs.Ends.{is_dropped}
use Rattle.zr_router_queue.proofs.Chosen.{passed_over, taken}
use Rattle.zr_router_queue.proofs.event.dropped_of.Goals.{then-is_dropped+in_ok-push, else-is_dropped}
use Rattle.zr_router_queue.proofs.event.dropped_of.Goals as goal

pub loop-end-preserved : goal.loop-end-preserved
loop-end-preserved c =
    elim c.if-is_dropped.branch [
      | then-is_dropped+in_ok-push w ↦
          taken (λ y. y.queue.link) (λ y. is_dropped y) c.args.ends.now c.loop-end.end-index c.end-item.result c.loop-end-test.true c.end-item.is c.loop-end.links.items _ c.loop-end.invariant
          (sym c.is_dropped.ensures ∙ w.if-is_dropped.true) _
          (ap (λ l. l.items) w.links-is ∙ w.in_ok-push.ensures.items ∙ ap (λ y. c.loop-end.links.items ++ y ∷ []) w.link.ensures)
      | else-is_dropped w ↦
          passed_over (λ y. y.queue.link) (λ y. is_dropped y) c.args.ends.now c.loop-end.end-index c.end-item.result c.loop-end-test.true c.end-item.is c.loop-end.links.items _ c.loop-end.invariant
          (sym c.is_dropped.ensures ∙ w.if-is_dropped.false) _ (ap (λ l. l.items) w.links-is)
    ]
