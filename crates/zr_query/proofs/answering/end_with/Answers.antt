use Rattle.std.proofs.Common.{◌≡◌, ◌+◌, ◌<◌, ◌++◌, ℕ, List, length, drop, get_or, ap, sym, subst, ◌∙◌, arith}
use Rattle.std.proofs.lemmas.List.{at_drop_more}
use Rattle.std.proofs.lemmas.Result.{err_from_is_err_and}
use Rattle.zr_id.specs.declared.link.LinkNo.{LinkNo}
use Rattle.zr_lists.specs.Prefix.{IsPrefixBehind}
use Rattle.zr_lists.proofs.Prefixes.{IsSoFar, so_far_more, so_far_stopped}
use Rattle.zr_msg.specs.declared.extras.Extras.{Extras}
use Rattle.zr_msg.specs.declared.msg.Msg.{Msg}
use Rattle.zr_pend_spec.specs.Held.{GatheringState}
use Rattle.zr_query.specs.Answering.{ending_sent, endings_sent}
use Rattle.zr_query.proofs.answering.end_with.Goals as goal

module _ (ended : List GatheringState) (i : ℕ) (x : GatheringState) (extras : Extras) (before now next : List (LinkNo × Msg)) (less : i < length ended) (is : x ≡ get_or ended i x)
    (h : IsSoFar before (endings_sent extras ended) now (endings_sent extras (drop i ended))) where
  here : IsSoFar before (endings_sent extras ended) now (ending_sent extras x ++ endings_sent extras (drop (i + 1) ended))
  here = subst (λ ms. IsSoFar before (endings_sent extras ended) now ms)
      (at_drop_more (λ xs. endings_sent extras xs) ended i x less ∙ ap (λ y. ending_sent extras y ++ endings_sent extras (drop (i + 1) ended)) (sym is)) h

  -- one more request has ended
  ended_more : next ≡ now ++ ending_sent extras x → IsSoFar before (endings_sent extras ended) next (endings_sent extras (drop (i + 1) ended))
  ended_more k = so_far_more before (endings_sent extras ended) now next (ending_sent extras x) (endings_sent extras (drop (i + 1) ended)) here k

  -- memory ran out on the way
  ended_part : IsPrefixBehind now (ending_sent extras x) next → IsPrefixBehind before (endings_sent extras ended) next
  ended_part k = so_far_stopped before (endings_sent extras ended) now next (ending_sent extras x) (endings_sent extras (drop (i + 1) ended)) here k

pub loop-one-preserved : goal.loop-one-preserved
loop-one-preserved c =
    ended_more c.args.ended.now c.loop-one.one-index c.one-item.result c.args.extras.now c.args.out.now.items c.loop-one.out.items c.end.new.out.items (omega arith) c.one-item.is c.loop-one.invariant c.in_ok-end.ensures.ok

pub returns-in_err-end-clause-err : goal.returns-in_err-end-clause-err
returns-in_err-end-clause-err c =
    let p = err_from_is_err_and c.from_residual.result c.from_residual.ensures.1 in
    rw p.1 (ended_part c.args.ended.now c.loop-one.one-index c.one-item.result c.args.extras.now c.args.out.now.items c.loop-one.out.items c.end.new.out.items (omega arith) c.one-item.is c.loop-one.invariant c.in_err-end.ensures.err)
