use Rattle.std.proofs.Common.{Bool, List, ap, ◌∙◌, arith, sym}
use Rattle.std.proofs.lemmas.Result.{err_from_is_err_and}
use Rattle.zr_lists.proofs.Prefixes.{so_far_prefix, along_picked, along_passed}
use Rattle.zr_id.specs.declared.link.LinkNo.{LinkNo}
use Rattle.zr_msg.specs.declared.msg.Msg.{Msg}
use Rattle.zr_push.specs.declared.route.RouteLink.{RouteLink}
use Rattle.zr_push.specs.Route.{goes_on, push_for, sent_along}
use Rattle.zr_push.proofs.push.send_along.Goals.{then-takes_from+in_ok-push_to, else-takes_from}
use Rattle.zr_push.proofs.push.send_along.Goals as goal

pub returns-in_err-push_to-clause-err : goal.returns-in_err-push_to-clause-err
returns-in_err-push_to-clause-err c =
    let p = err_from_is_err_and c.from_residual.result c.from_residual.ensures.1 in
    rw (p.1, c.in_err-push_to.ensures.err) (so_far_prefix _ _ _ _ c.loop-stop.invariant)

pub loop-stop-preserved : goal.loop-stop-preserved
loop-stop-preserved c =
    let stops : List RouteLink = c.args.stops.now in
    let said : List (LinkNo × Msg) = sent_along stops c.args.from.0 c.args.tree c.args.content.now in
    let goes : RouteLink → Bool = λ s. goes_on c.args.from.0 s s.role in
    let said_of : RouteLink → LinkNo × Msg = λ s. push_for c.args.tree c.args.content.now s in
    elim c.if-takes_from.branch [
      | then-takes_from+in_ok-push_to w ↦
          along_picked goes said_of c.args.out.now.items said stops c.loop-stop.stop-index _ c.loop-stop.out.items c.if-takes_from.out.items
          (omega arith) (sym c.takes_from.ensures ∙ w.if-takes_from.true)
          (ap (λ v. v.items) w.out-is ∙ w.in_ok-push_to.ensures.ok)
          c.loop-stop.invariant
      | else-takes_from w ↦
          along_passed goes said_of c.args.out.now.items said stops c.loop-stop.stop-index _ c.loop-stop.out.items c.if-takes_from.out.items
          (omega arith) (sym c.takes_from.ensures ∙ w.if-takes_from.false)
          (ap (λ v. v.items) w.out-is) c.loop-stop.invariant
    ]
