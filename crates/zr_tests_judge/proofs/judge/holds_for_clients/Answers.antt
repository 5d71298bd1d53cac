use Rattle.std.proofs.Common.{◌∙◌, sym}
use Rattle.std.specs.Prelude.{Bool}
use Rattle.zr_world_spec.specs.Moments.{Numbered}
use Rattle.zr_tests_judge.specs.Judge.{holds_for_client}
use Rattle.zr_tests_judge.proofs.Loops.{all_missed, all_passed}
use Rattle.zr_tests_judge.proofs.judge.holds_for_clients.Goals as goal

pub returns-then-not-branch : goal.returns-then-not-branch
returns-then-not-branch c =
    let holds : Numbered → Bool = λ x. holds_for_client c.args.case.now c.args.publisher.now x.1 in
    sym (all_missed holds c.args.acts.now c.loop-x.x-index c.x-item.result c.loop-x-test.true c.x-item.is (sym c.in_ok-holds_for_client.ensures ∙ c.if-not-branch.true)) ∙ c.loop-x.invariant

pub loop-x-preserved : goal.loop-x-preserved
loop-x-preserved c =
    let holds : Numbered → Bool = λ x. holds_for_client c.args.case.now c.args.publisher.now x.1 in
    all_passed holds c.args.acts.now c.loop-x.x-index c.x-item.result c.loop-x-test.true c.x-item.is (sym c.in_ok-holds_for_client.ensures ∙ c.if-not-branch.false) ∙ c.loop-x.invariant
