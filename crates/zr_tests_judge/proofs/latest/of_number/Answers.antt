use Rattle.std.proofs.Common.{◌≡◌, ℕ, true, false, List, [], ◌∷◌, ◌++◌, map, filter, refl, ap, subst, ◌∙◌, arith}
use Rattle.std.specs.Prelude.{Bool, ◌==◌}
use Rattle.std.proofs.lemmas.Bool.{eq-eqb, ne_eqb}
use Rattle.zr_guarantee.specs.Item.{Reply}
use Rattle.zr_pend_spec.specs.Best.{key_body}
use Rattle.zr_tests_judge.proofs.Loops.{gathered_all, part_kept, part_passed}
use Rattle.zr_tests_judge.proofs.latest.of_number.Goals.{then-r-number+in_ok-push, else-r-number}
use Rattle.zr_tests_judge.proofs.latest.of_number.Goals as goal

pub loop-r-preserved : goal.loop-r-preserved
loop-r-preserved c =
    let test : Reply → Bool = λ r. r.number == c.args.number in
    let part : Reply → List ℕ × List ℕ = λ r. key_body r.content in
    elim c.if-r-number.branch [
      | then-r-number+in_ok-push w ↦
          part_kept test part c.args.replies.now c.loop-r.r-index c.r-item.result c.loop-r-test.true c.r-item.is c.loop-r.told.items _ _ c.loop-r.invariant
          (subst (λ (t : Reply). test t ≡ true) c.r.view_is (eq-eqb _ _ w.if-r-number.true))
          (ap (λ v. v.items) w.told-is ∙ w.in_ok-push.ensures.items ∙ ap (λ k. c.loop-r.told.items ++ k ∷ []) w.key_body.ensures
          ∙ ap (λ (t : Reply). c.loop-r.told.items ++ part t ∷ []) c.r.view_is)
      | else-r-number w ↦
          part_passed test part c.args.replies.now c.loop-r.r-index c.r-item.result c.loop-r-test.true c.r-item.is c.loop-r.told.items _ _ c.loop-r.invariant
          (subst (λ (t : Reply). test t ≡ false) c.r.view_is (ne_eqb _ _ w.if-r-number.false)) (ap (λ v. v.items) w.told-is)
    ]

pub returns : goal.returns
returns c =
    let all : List Reply → List (List ℕ × List ℕ) = λ rs. map (λ r. key_body r.content) (filter (λ r. r.number == c.args.number) rs) in
    gathered_all all refl c.args.replies.now c.loop-r.r-index (omega arith) c.loop-r.told.items _ c.loop-r.invariant
