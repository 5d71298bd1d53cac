use Rattle.std.proofs.Common.{◌∙◌, sym}
use Rattle.zr_tests_judge.specs.Judge.{query_holds}
use Rattle.zr_tests_judge.proofs.Loops.{all_missed, all_passed}
use Rattle.zr_tests_judge.proofs.answers.queries_hold.Goals as goal

pub returns-then-not-branch : goal.returns-then-not-branch
returns-then-not-branch c =
    let holds = query_holds c.args.talk.now in
    sym (all_missed holds c.args.asked.now c.loop-q.q-index c.q-item.result c.loop-q-test.true c.q-item.is (sym c.in_ok-query_holds.ensures ∙ c.if-not-branch.true)) ∙ c.loop-q.invariant

pub loop-q-preserved : goal.loop-q-preserved
loop-q-preserved c =
    let holds = query_holds c.args.talk.now in
    all_passed holds c.args.asked.now c.loop-q.q-index c.q-item.result c.loop-q-test.true c.q-item.is (sym c.in_ok-query_holds.ensures ∙ c.if-not-branch.false) ∙ c.loop-q.invariant
