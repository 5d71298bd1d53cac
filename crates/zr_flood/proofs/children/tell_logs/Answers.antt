use Rattle.std.proofs.Common.{◌≡◌, ℕ, ◌+◌, ◌<◌, List, ◌++◌, length, get_or, drop, sym, ap, subst, ◌∙◌, arith}
use Rattle.std.specs.List.{flat_map}
use Rattle.std.proofs.lemmas.List.{at_drop_more}
use Rattle.std.proofs.lemmas.Result.{err_from_is_err_and}
use Rattle.zr_graph.specs.Base.{BaseState}
use Rattle.zr_id.specs.declared.link.LinkNo.{LinkNo}
use Rattle.zr_log.specs.declared.log.Log.{Log}
use Rattle.zr_msg.specs.declared.msg.Msg.{Msg}
use Rattle.zr_msg.specs.declared.peer.LinkPeer.{LinkPeer}
use Rattle.zr_lists.proofs.Prefixes.{IsSoFar, so_far_more, so_far_stopped}
use Rattle.zr_flood.specs.Tell.{to_new_children}
use Rattle.zr_flood.proofs.children.tell_logs.Goals as goal

-- the next log, and those behind it
next_log : (links : List LinkPeer) (b before : BaseState) (logs : List Log) (i : ℕ) (log : Log) (old said now : List (LinkNo × Msg)) → i < length logs → log ≡ get_or logs i log
    → IsSoFar old said now (flat_map (to_new_children links b before) (drop i logs)) → IsSoFar old said now (to_new_children links b before log ++ flat_map (to_new_children links b before) (drop (i + 1) logs))
next_log links b before logs i log old said now less is h =
    subst (λ ms. IsSoFar old said now ms)
    (at_drop_more (λ ls. flat_map (to_new_children links b before) ls) logs i log less ∙ ap (λ q. to_new_children links b before q ++ flat_map (to_new_children links b before) (drop (i + 1) logs)) (sym is)) h

pub returns-in_err-tell_log-clause-err : goal.returns-in_err-tell_log-clause-err
returns-in_err-tell_log-clause-err c =
    let p = err_from_is_err_and c.from_residual.result c.from_residual.ensures.1 in
    rw p.1
    (so_far_stopped _ _ _ _ _ _
    (next_log c.args.links.now c.args.family.now c.args.before.now c.args.logs.now c.loop-log.log-index c.log-item.result _ _ _ (omega arith) c.log-item.is c.loop-log.invariant)
    c.in_err-tell_log.ensures.err)

pub loop-log-preserved : goal.loop-log-preserved
loop-log-preserved c =
    so_far_more _ _ _ _ _ _
    (next_log c.args.links.now c.args.family.now c.args.before.now c.args.logs.now c.loop-log.log-index c.log-item.result _ _ _ (omega arith) c.log-item.is c.loop-log.invariant)
    c.in_ok-tell_log.ensures.ok
