use Rattle.std.proofs.Common.{◌∙◌, sym}
use Rattle.zr_tests_judge.specs.Judge.{answers_hold}
use Rattle.zr_tests_judge.proofs.Loops.{all_missed, all_passed}
use Rattle.zr_tests_judge.proofs.answers.all_answers_hold.Goals as goal

pub returns-then-not-branch : goal.returns-then-not-branch
returns-then-not-branch c =
    let holds = answers_hold c.args.talk.now in
    sym (all_missed holds c.args.report.now c.loop-x.x-index c.x-item.result c.loop-x-test.true c.x-item.is (sym c.in_ok-answers_hold.ensures ∙ c.if-not-branch.true)) ∙ c.loop-x.invariant

pub loop-x-preserved : goal.loop-x-preserved
loop-x-preserved c =
    let holds = answers_hold c.args.talk.now in
    all_passed holds c.args.report.now c.loop-x.x-index c.x-item.result c.loop-x-test.true c.x-item.is (sym c.in_ok-answers_hold.ensures ∙ c.if-not-branch.false) ∙ c.loop-x.invariant
