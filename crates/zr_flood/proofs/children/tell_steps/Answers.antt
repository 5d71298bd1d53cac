use Rattle.std.proofs.Common.{◌≡◌, ℕ, ◌+◌, ◌<◌, Bool, List, ◌++◌, length, get_or, drop, map, sym, ap, subst, ◌∙◌, arith}
use Rattle.std.proofs.lemmas.List.{at_drop_more, length-drop}
use Rattle.std.proofs.lemmas.Result.{err_from_is_err_and}
use Rattle.zr_id.specs.declared.link.LinkNo.{LinkNo}
use Rattle.zr_msg.specs.declared.decl.Decl.{Decl}
use Rattle.zr_msg.specs.declared.msg.Msg.{Msg}
use Rattle.zr_msg.specs.declared.msg.Msg.TheVariants.{Step}
use Rattle.zr_node_spec.specs.Changes.{steps}
use Rattle.zr_lists.proofs.Prefixes.{IsSoFar, so_far_more, so_far_stopped}
use Rattle.zr_node_spec.specs.Each.{to_each}
use Rattle.zr_flood.specs.Tell.{all_to_each}
use Rattle.zr_flood.proofs.children.tell_steps.Goals as goal

-- the declarations from a place on, as changes, for each link
abbrev left_from : List LinkNo → List ℕ → ℕ → Bool → List Decl → List (LinkNo × Msg)
left_from to me number added ds = all_to_each to (steps me number (map (λ d. record { added = added; decl = d }) ds))

-- the next declaration, and those behind it
next_decl : (to : List LinkNo) (me : List ℕ) (number : ℕ) (added : Bool) (ds : List Decl) (i : ℕ) (d : Decl) (old said now : List (LinkNo × Msg)) → i < length ds → d ≡ get_or ds i d
    → IsSoFar old said now (left_from to me number added (drop i ds)) → IsSoFar old said now (to_each to (Step me (number + 1) added d) ++ left_from to me (number + 1) added (drop (i + 1) ds))
next_decl to me number added ds i d old said now less is h =
    subst (λ ms. IsSoFar old said now ms)
    (at_drop_more (λ qs. left_from to me number added qs) ds i d less
    ∙ ap (λ q. to_each to (Step me (number + 1) added q) ++ left_from to me (number + 1) added (drop (i + 1) ds)) (sym is)) h

pub returns-in_err-tell_step-clause-err : goal.returns-in_err-tell_step-clause-err
returns-in_err-tell_step-clause-err c =
    let p = err_from_is_err_and c.from_residual.result c.from_residual.ensures.1 in
    rw p.1
    (so_far_stopped _ _ _ _ _ _
    (next_decl c.args.to.now c.args.me c.loop-decl.number c.args.added c.args.decls.now c.loop-decl.decl-index c.decl-item.result _ _ _ (omega arith) c.decl-item.is c.loop-decl.invariant.said)
    c.in_err-tell_step.ensures.err)

pub loop-decl-preserved : goal.loop-decl-preserved
loop-decl-preserved c = record {
  room = omega (arith, c.loop-decl.invariant.room, length-drop c.loop-decl.decl-index c.args.decls.now, length-drop (c.loop-decl.decl-index + 1) c.args.decls.now);
  said =
      so_far_more _ _ _ _ _ _
      (next_decl c.args.to.now c.args.me c.loop-decl.number c.args.added c.args.decls.now c.loop-decl.decl-index c.decl-item.result _ _ _ (omega arith) c.decl-item.is c.loop-decl.invariant.said)
      c.in_ok-tell_step.ensures.ok;
}

pub overflow_add-number : goal.overflow_add-number
overflow_add-number c = omega (arith, c.loop-decl.invariant.room, length-drop c.loop-decl.decl-index c.args.decls.now)
