use Rattle.std.proofs.Common.{◌==◌, ◌&&◌, not, Bool, List, refl, ap, ◌∙◌, sym, arith}
use Rattle.std.proofs.lemmas.Result.{err_from_is_err_and}
use Rattle.zr_id.specs.declared.link.LinkNo.{LinkNo}
use Rattle.zr_msg.specs.declared.msg.Msg.{Msg}
use Rattle.zr_msg.specs.declared.msg.Msg.TheVariants.{State}
use Rattle.zr_msg.specs.declared.peer.LinkPeer.{LinkPeer}
use Rattle.zr_lists.proofs.Prefixes.{so_far_prefix, along_picked, along_passed}
use Rattle.zr_node_spec.specs.Tables.{is_router}
use Rattle.zr_flood.specs.Flood.{to_others}
use Rattle.zr_flood.proofs.flood.tell_others.Goals.{then-is_other_router+in_ok-tell_shared, else-is_other_router}
use Rattle.zr_flood.proofs.flood.tell_others.Goals as goal

pub returns-in_err-tell_shared-clause-err : goal.returns-in_err-tell_shared-clause-err
returns-in_err-tell_shared-clause-err c =
    let p = err_from_is_err_and c.from_residual.result c.from_residual.ensures.1 in
    rw (p.1, c.in_err-tell_shared.ensures.err) (so_far_prefix _ _ _ _ c.loop-link.invariant)

pub loop-link-preserved : goal.loop-link-preserved
loop-link-preserved c =
    let links : List LinkPeer = c.args.links.now in
    let msg : Msg = State c.args.told.now in
    let said : List (LinkNo × Msg) = to_others links c.args.from.0 msg in
    let is_other : LinkPeer → Bool = λ l. not (l.link.0 == c.args.from.0) && is_router l.peer.role in
    let said_of : LinkPeer → LinkNo × Msg = λ l. (l.link, msg) in
    elim c.if-is_other_router.branch [
      | then-is_other_router+in_ok-tell_shared w ↦
          along_picked is_other said_of c.args.out.now.items said links c.loop-link.link-index c.link-item.result c.loop-link.out.items c.if-is_other_router.out.items
          (omega arith) (rw (← c.link-item.is) (sym c.is_other_router.ensures ∙ w.if-is_other_router.true))
          (ap (λ v. v.items) w.out-is ∙ w.in_ok-tell_shared.ensures.ok ∙ rw (← c.link-item.is) refl)
          c.loop-link.invariant
      | else-is_other_router w ↦
          along_passed is_other said_of c.args.out.now.items said links c.loop-link.link-index c.link-item.result c.loop-link.out.items c.if-is_other_router.out.items
          (omega arith) (rw (← c.link-item.is) (sym c.is_other_router.ensures ∙ w.if-is_other_router.false))
          (ap (λ v. v.items) w.out-is) c.loop-link.invariant
    ]
