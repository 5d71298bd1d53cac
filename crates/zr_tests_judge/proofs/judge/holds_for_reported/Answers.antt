use Rattle.std.proofs.Common.{◌∙◌, sym}
use Rattle.zr_tests_judge.specs.Judge.{holds_for_receiver}
use Rattle.zr_tests_judge.proofs.Loops.{all_missed, all_passed}
use Rattle.zr_tests_judge.proofs.judge.holds_for_reported.Goals as goal

pub returns-then-not-branch : goal.returns-then-not-branch
returns-then-not-branch c =
    let holds = holds_for_receiver c.args.case.now c.args.publisher.now in
    sym (all_missed holds c.args.report.now c.loop-x.x-index c.x-item.result c.loop-x-test.true c.x-item.is (sym c.in_ok-holds_for_receiver.ensures ∙ c.if-not-branch.true)) ∙ c.loop-x.invariant

pub loop-x-preserved : goal.loop-x-preserved
loop-x-preserved c =
    let holds = holds_for_receiver c.args.case.now c.args.publisher.now in
    all_passed holds c.args.report.now c.loop-x.x-index c.x-item.result c.loop-x-test.true c.x-item.is (sym c.in_ok-holds_for_receiver.ensures ∙ c.if-not-branch.false) ∙ c.loop-x.invariant
