use Rattle.std.proofs.Common.{◌≡◌, ◌+◌, ◌++◌, List, [], ◌∷◌, length, refl, sym, ap, subst, ◌∙◌, arith}
use Rattle.std.proofs.lemmas.Bool.{eqb-true}
use Rattle.std.proofs.lemmas.List.{append-nil}
use Rattle.std.proofs.lemmas.Result.{err_from_is_err_and, on_ok_weaker, on_err_weaker}
use Rattle.zr_id.specs.declared.link.LinkNo.{LinkNo}
use Rattle.zr_msg.specs.declared.msg.Msg.{Msg}
use Rattle.zr_node_spec.specs.Changes.{changes_of, steps}
use Rattle.zr_lists.specs.Prefix.{IsPrefixBehind}
use Rattle.zr_lists.proofs.Prefixes.{first_prefix, second_prefix, both_said}
use Rattle.zr_flood.specs.Tell.{all_to_each}
use Rattle.zr_flood.proofs.OnChildren.{both_steps}
use Rattle.zr_flood.proofs.Picked.{none_told}
use Rattle.zr_flood.proofs.children.tell_both.Goals as goal

no_links : (links : List LinkNo) → length links ≡ 0 → links ≡ []
no_links [] e = refl
no_links (n ∷ links) e = absurd (omega arith)

pub returns-then-is_empty-clause-ok : goal.returns-then-is_empty-clause-ok
returns-then-is_empty-clause-ok c =
    let none : c.args.to.now ≡ [] = no_links c.args.to.now (eqb-true (length c.args.to.now) 0 (sym c.is_empty.ensures ∙ c.if-is_empty.true)) in
    let ms : List Msg = steps c.args.me c.args.number (changes_of c.args.changes.now.gone.items c.args.changes.now.came.items) in
    sym (ap (λ ns. c.args.out.now.items ++ all_to_each ns ms) none ∙ ap (λ xs. c.args.out.now.items ++ xs) (none_told ms) ∙ append-nil c.args.out.now.items)

pub returns-in_err-tell_steps-clause-err : goal.returns-in_err-tell_steps-clause-err
returns-in_err-tell_steps-clause-err c =
    let p = err_from_is_err_and c.from_residual.result c.from_residual.ensures.1 in
    let e = both_steps c.args.to.now c.args.me c.args.number (c.args.number + length c.args.changes.now.gone.items) c.args.changes.now.gone.items c.args.changes.now.came.items refl in
    rw p.1
    (subst (λ xs. IsPrefixBehind c.args.out.now.items xs c.tell_steps.new.out.items) (sym e) (first_prefix _ _ _ _ (rw c.as_slice-gone.ensures.value at c.in_err-tell_steps.ensures.err)))

pub returns-clause-ok : goal.returns-clause-ok
returns-clause-ok c =
    let l : length c.as_slice-gone.result.now ≡ length c.args.changes.now.gone.items = ap (λ xs. length xs) c.as_slice-gone.ensures.value in
    let e = both_steps c.args.to.now c.args.me c.args.number (c.args.number + length c.as_slice-gone.result.now) c.args.changes.now.gone.items c.args.changes.now.came.items (ap (λ k. c.args.number + k) l) in
    on_ok_weaker c.tell_steps-2.result
    (λ f. both_said c.args.out.now.items _ _ c.tell_steps.new.out.items c.tell_steps-2.new.out.items (rw c.as_slice-gone.ensures.value at c.in_ok-tell_steps.ensures.ok) f ∙ ap (λ xs. c.args.out.now.items ++ xs) (sym e))
    (rw c.as_slice.ensures.value at c.tell_steps-2.ensures.ok)

pub returns-clause-err : goal.returns-clause-err
returns-clause-err c =
    let l : length c.as_slice-gone.result.now ≡ length c.args.changes.now.gone.items = ap (λ xs. length xs) c.as_slice-gone.ensures.value in
    let e = both_steps c.args.to.now c.args.me c.args.number (c.args.number + length c.as_slice-gone.result.now) c.args.changes.now.gone.items c.args.changes.now.came.items (ap (λ k. c.args.number + k) l) in
    on_err_weaker c.tell_steps-2.result
    (λ h.
    subst (λ xs. IsPrefixBehind c.args.out.now.items xs c.tell_steps-2.new.out.items) (sym e)
    (second_prefix _ _ _ _ _ (rw c.as_slice-gone.ensures.value at c.in_ok-tell_steps.ensures.ok) h))
    (rw c.as_slice.ensures.value at c.tell_steps-2.ensures.err)
