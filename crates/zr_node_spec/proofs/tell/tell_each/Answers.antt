use Rattle.std.proofs.Common.{◌≡◌, ℕ, List, ◌∷◌, [], ◌++◌, drop, ◌+◌, ap, subst, ◌∙◌, arith}
use Rattle.std.proofs.Math.ListN.{get_or}
use Rattle.std.proofs.lemmas.List.{at_drop_more}
use Rattle.std.proofs.lemmas.Result.{err_from_is_err_and}
use Rattle.zr_id.specs.declared.link.LinkNo.{LinkNo}
use Rattle.zr_msg.specs.declared.msg.Msg.{Msg}
use Rattle.zr_lists.proofs.Prefixes.{IsSoFar, so_far_one, so_far_prefix}
use Rattle.zr_node_spec.specs.Each.{to_each}
use Rattle.zr_node_spec.proofs.tell.tell_each.Goals as goal

pub returns-in_err-copy-clause-err : goal.returns-in_err-copy-clause-err
returns-in_err-copy-clause-err c =
    let p = err_from_is_err_and c.from_residual.result c.from_residual.ensures.1 in
    rw p.1 (so_far_prefix _ _ _ _ c.loop-link.invariant)

pub returns-in_err-tell-clause-err : goal.returns-in_err-tell-clause-err
returns-in_err-tell-clause-err c =
    let p = err_from_is_err_and c.from_residual-in_err-tell.result c.from_residual-in_err-tell.ensures.1 in
    rw (p.1, c.in_err-tell.ensures.err) (so_far_prefix _ _ _ _ c.loop-link.invariant)

pub loop-link-preserved : goal.loop-link-preserved
loop-link-preserved c =
    let to : List LinkNo = c.args.to.now in
    let i : ℕ = c.loop-link.link-index in
    let msg : Msg = c.args.msg.now in
    let link : LinkNo = get_or to i (record { 0 = 0 }) in
    let said : List (LinkNo × Msg) = to_each to msg in
    let rest : List (LinkNo × Msg) = to_each (drop (i + 1) to) msg in
    let one : to_each (drop i to) msg ≡ (link, msg) ∷ rest = at_drop_more (λ ns. to_each ns msg) to i (record { 0 = 0 }) (omega arith) in
    so_far_one c.args.out.now.items said c.loop-link.out.items c.tell.new.out.items (link, msg) rest
    (subst (λ ms. IsSoFar c.args.out.now.items said c.loop-link.out.items ms) one c.loop-link.invariant)
    (c.in_ok-tell.ensures.ok ∙ ap (λ m. c.loop-link.out.items ++ (link, m) ∷ []) c.in_ok-copy.ensures)
