use Rattle.std.proofs.Common.{Bool, [], sym, ap, ◌∙◌, arith}
use Rattle.zr_push.specs.declared.route.RouteLink.{RouteLink}
use Rattle.zr_push.specs.Route.{goes_on}
use Rattle.zr_node_spec.proofs.Kept.{kept_more, kept_past}
use Rattle.zr_push.proofs.route.stops_from.Goals.{then-takes_from+in_ok-push, else-takes_from}
use Rattle.zr_push.proofs.route.stops_from.Goals as goal

pub loop-stop-preserved : goal.loop-stop-preserved
loop-stop-preserved c =
    let goes : RouteLink → Bool = λ s. goes_on c.args.from.0 s s.role in
    elim c.if-takes_from.branch [
      | then-takes_from+in_ok-push w ↦
          kept_more goes [] c.args.stops.now c.loop-stop.stop-index _ c.loop-stop.left.items c.if-takes_from.left.items (omega arith) (sym c.takes_from.ensures ∙ w.if-takes_from.true)
          (ap (λ v. v.items) w.left-is ∙ w.in_ok-push.ensures.items) c.loop-stop.invariant
      | else-takes_from w ↦
          kept_past goes [] c.args.stops.now c.loop-stop.stop-index _ c.loop-stop.left.items c.if-takes_from.left.items (omega arith) (sym c.takes_from.ensures ∙ w.if-takes_from.false)
          (ap (λ v. v.items) w.left-is) c.loop-stop.invariant
    ]
