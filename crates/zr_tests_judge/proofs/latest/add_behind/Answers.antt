use Rattle.std.proofs.Common.{◌≡◌, true, false, [], ◌∷◌, ◌++◌, filter, refl, sym, ap, subst, ◌∙◌, arith}
use Rattle.std.specs.Prelude.{Bool}
use Rattle.std.specs.Cmp.Lexicographic.{slice_cmp}
use Rattle.std.specs.Ordering.{is_lt, nat_cmp}
use Rattle.zr_msg.specs.declared.content.Parts.{Parts}
use Rattle.zr_tests_judge.proofs.Loops.{gathered_all, is_kept, is_passed}
use Rattle.zr_tests_judge.proofs.latest.add_behind.Goals.{then-is_before+in_ok-push, else-is_before}
use Rattle.zr_tests_judge.proofs.latest.add_behind.Goals as goal

pub loop-r-preserved : goal.loop-r-preserved
loop-r-preserved c =
    let test : Parts → Bool = λ r. is_lt (slice_cmp nat_cmp c.args.key.now r.key) in
    elim c.if-is_before.branch [
      | then-is_before+in_ok-push w ↦
          is_kept test c.args.held.now c.loop-r.r-index c.r-item.result c.loop-r-test.true c.r-item.is c.loop-r.out.items _ _ c.loop-r.invariant (subst (λ (t : Parts). test t ≡ true) c.r.view_is (ap (λ k. is_lt (slice_cmp nat_cmp c.args.key.now k)) (sym c.key.ensures) ∙ sym c.is_before.ensures ∙ w.if-is_before.true))
          (ap (λ v. v.items) w.out-is ∙ w.in_ok-push.ensures.items ∙ ap (λ (t : Parts). c.loop-r.out.items ++ t ∷ []) c.r.view_is)
      | else-is_before w ↦
          is_passed test c.args.held.now c.loop-r.r-index c.r-item.result c.loop-r-test.true c.r-item.is c.loop-r.out.items _ _ c.loop-r.invariant (subst (λ (t : Parts). test t ≡ false) c.r.view_is (ap (λ k. is_lt (slice_cmp nat_cmp c.args.key.now k)) (sym c.key.ensures) ∙ sym c.is_before.ensures ∙ w.if-is_before.false)) (ap (λ v. v.items) w.out-is)
    ]

pub returns : goal.returns
returns c =
    let test : Parts → Bool = λ r. is_lt (slice_cmp nat_cmp c.args.key.now r.key) in
    gathered_all (filter test) refl c.args.held.now c.loop-r.r-index (omega arith) c.loop-r.out.items _ c.loop-r.invariant
