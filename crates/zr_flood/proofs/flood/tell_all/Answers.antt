use Rattle.std.proofs.Common.{◌≡◌, ℕ, List, ◌∷◌, map, drop, ◌+◌, ap, subst, ◌∙◌, sym, arith}
use Rattle.std.proofs.lemmas.List.{at_drop_more}
use Rattle.std.proofs.lemmas.Result.{err_from_is_err_and}
use Rattle.zr_id.specs.Record.{RecordState}
use Rattle.zr_id.specs.declared.link.LinkNo.{LinkNo}
use Rattle.zr_msg.specs.declared.msg.Msg.{Msg}
use Rattle.zr_msg.specs.declared.msg.Msg.TheVariants.{State}
use Rattle.zr_lists.proofs.Prefixes.{IsSoFar, so_far_one, so_far_prefix}
use Rattle.zr_flood.specs.Flood.{all_to}
use Rattle.zr_flood.proofs.flood.tell_all.Goals as goal

pub returns-in_err-tell_copy-clause-err : goal.returns-in_err-tell_copy-clause-err
returns-in_err-tell_copy-clause-err c =
    let p = err_from_is_err_and c.from_residual.result c.from_residual.ensures.1 in
    rw (p.1, c.in_err-tell_copy.ensures.err) (so_far_prefix _ _ _ _ c.loop-record.invariant)

pub loop-record-preserved : goal.loop-record-preserved
loop-record-preserved c =
    let rs : List RecordState = c.records-record-items.result.now in
    let i : ℕ = c.loop-record.record-index in
    let r : RecordState = c.record-item.result in
    let to : LinkNo = c.args.to in
    let said : List (LinkNo × Msg) = all_to c.args.base.now to in
    let rest : List (LinkNo × Msg) = map (λ q. (to, State q)) (drop (i + 1) rs) in
    let one : map (λ q. (to, State q)) (drop i rs) ≡ (to, State r) ∷ rest =
    at_drop_more (λ qs. map (λ q. (to, State q)) qs) rs i r (omega arith) ∙ ap (λ q. (to, State q) ∷ rest) (sym c.record-item.is) in
    so_far_one c.args.out.now.items said c.loop-record.out.items c.tell_copy.new.out.items (to, State r) rest
    (subst (λ ms. IsSoFar c.args.out.now.items said c.loop-record.out.items ms) one c.loop-record.invariant) c.in_ok-tell_copy.ensures.ok
