use Rattle.std.proofs.Common.{◌≡◌, ℕ, true, false, [], ◌∷◌, ◌++◌, sym, ap, subst, ◌∙◌}
use Rattle.std.specs.Prelude.{Bool}
use Rattle.zr_guarantee.specs.Sent.{Told, is_request}
use Rattle.zr_tests_judge.proofs.Loops.{part_kept, part_passed}
use Rattle.zr_tests_judge.proofs.sent.requests_to.Goals.{then-is_request+in_ok-push, else-is_request}
use Rattle.zr_tests_judge.proofs.sent.requests_to.Goals as goal

pub loop-x-preserved : goal.loop-x-preserved
loop-x-preserved c =
    let test : Told → Bool = λ x. is_request c.args.number x.msg in
    let tag : Told → ℕ = λ x. x.tag in
    elim c.if-is_request.branch [
      | then-is_request+in_ok-push w ↦
          part_kept test tag c.deref-x-items.result.now c.loop-x.x-index c.x-item.result c.loop-x-test.true c.x-item.is c.loop-x.lines.items _ _ c.loop-x.invariant (subst (λ (t : Told). test t ≡ true) c.x.view_is (sym c.is_request.ensures ∙ w.if-is_request.true))
          (ap (λ v. v.items) w.lines-is ∙ w.in_ok-push.ensures.items ∙ ap (λ (t : Told). c.loop-x.lines.items ++ t.tag ∷ []) c.x.view_is)
      | else-is_request w ↦
          part_passed test tag c.deref-x-items.result.now c.loop-x.x-index c.x-item.result c.loop-x-test.true c.x-item.is c.loop-x.lines.items _ _ c.loop-x.invariant (subst (λ (t : Told). test t ≡ false) c.x.view_is (sym c.is_request.ensures ∙ w.if-is_request.false)) (ap (λ v. v.items) w.lines-is)
    ]
