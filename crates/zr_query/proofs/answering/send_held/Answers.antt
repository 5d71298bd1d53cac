use Rattle.std.proofs.Common.{◌≡◌, ◌+◌, ◌<◌, [], ◌∷◌, ◌++◌, ℕ, List, length, drop, map, get_or, ap, sym, subst, ◌∙◌, arith}
use Rattle.std.proofs.lemmas.List.{at_drop_more}
use Rattle.std.proofs.lemmas.Result.{err_from_is_err_and}
use Rattle.zr_id.specs.declared.link.LinkNo.{LinkNo}
use Rattle.zr_msg.specs.declared.content.Parts.{Parts}
use Rattle.zr_msg.specs.declared.msg.Msg.{Msg}
use Rattle.zr_pend_spec.specs.declared.branch.Asker.{Asker}
use Rattle.zr_lists.proofs.Prefixes.{IsSoFar, so_far_one, so_far_prefix}
use Rattle.zr_query.specs.Answering.{reply_sent}
use Rattle.zr_query.proofs.answering.send_held.Goals as goal

abbrev all_of : Asker → List Parts → List (LinkNo × Msg)
all_of to held = map (λ c. reply_sent c to) held

-- one more reply was sent
sent_more : (held : List Parts) (i : ℕ) (x : Parts) (to : Asker) (before now next : List (LinkNo × Msg)) → i < length held → x ≡ get_or held i x → next ≡ now ++ reply_sent x to ∷ []
    → IsSoFar before (all_of to held) now (all_of to (drop i held)) → IsSoFar before (all_of to held) next (all_of to (drop (i + 1) held))
sent_more held i x to before now next less is k h =
    let one : all_of to (drop i held) ≡ reply_sent x to ∷ all_of to (drop (i + 1) held) =
    at_drop_more (λ xs. all_of to xs) held i x less ∙ ap (λ y. reply_sent y to ∷ all_of to (drop (i + 1) held)) (sym is) in
    so_far_one before (all_of to held) now next (reply_sent x to) (all_of to (drop (i + 1) held)) (subst (λ ms. IsSoFar before (all_of to held) now ms) one h) k

pub loop-reply-preserved : goal.loop-reply-preserved
loop-reply-preserved c =
    sent_more c.args.held.now c.loop-reply.reply-index c.reply-item.result c.args.to c.args.out.now.items c.loop-reply.out.items c.send_reply.new.out.items (omega arith) c.reply-item.is
    c.in_ok-send_reply.ensures.ok c.loop-reply.invariant

pub returns-in_err-send_reply-clause-err : goal.returns-in_err-send_reply-clause-err
returns-in_err-send_reply-clause-err c =
    let p = err_from_is_err_and c.from_residual.result c.from_residual.ensures.1 in
    rw (p.1, c.in_err-send_reply.ensures.err) (so_far_prefix _ _ _ _ c.loop-reply.invariant)
