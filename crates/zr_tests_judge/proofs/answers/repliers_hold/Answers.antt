use Rattle.std.proofs.Common.{◌≡◌, true, false, sym, subst, ◌∙◌}
use Rattle.std.specs.Prelude.{Bool}
use Rattle.zr_guarantee.specs.Queries.{Saying}
use Rattle.zr_tests_judge.specs.Judge.{replier_holds}
use Rattle.zr_tests_judge.proofs.Loops.{all_missed, all_passed}
use Rattle.zr_tests_judge.proofs.answers.repliers_hold.Goals as goal

pub returns-then-not-branch : goal.returns-then-not-branch
returns-then-not-branch c =
    let holds : Saying → Bool = λ s. replier_holds c.args.talk.now c.args.q.now s.client in
    sym (all_missed holds c.deref-s-items.result.now c.loop-s.s-index c.s-item.result c.loop-s-test.true c.s-item.is (subst (λ (s : Saying). holds s ≡ false) c.s.view_is (sym c.in_ok-replier_holds.ensures ∙ c.if-not-branch.true))) ∙ c.loop-s.invariant

pub loop-s-preserved : goal.loop-s-preserved
loop-s-preserved c =
    let holds : Saying → Bool = λ s. replier_holds c.args.talk.now c.args.q.now s.client in
    all_passed holds c.deref-s-items.result.now c.loop-s.s-index c.s-item.result c.loop-s-test.true c.s-item.is (subst (λ (s : Saying). holds s ≡ true) c.s.view_is (sym c.in_ok-replier_holds.ensures ∙ c.if-not-branch.false)) ∙ c.loop-s.invariant
