use Rattle.std.proofs.Common.{◌∙◌}
use Rattle.zr_tests_judge.proofs.Replied.{replier_is}
use Rattle.zr_tests_judge.proofs.answers.replier_holds.Goals as goal

pub returns : goal.returns
returns c =
    c.agree.ensures
    ∙ replier_is c.args.talk.now c.args.q.now c.args.replier.now c.as_slice-told.result.now c.as_slice-due.result.now c.as_slice.result.now c.as_slice-2.result.now
    c.is_whole-is_whole.result (c.as_slice-told.ensures.value ∙ c.in_ok-told.ensures) (c.as_slice-due.ensures.value ∙ c.in_ok-due.ensures)
    (c.as_slice.ensures.value ∙ c.in_ok-sent.ensures) (c.as_slice-2.ensures.value ∙ c.in_ok-behind.ensures) c.is_whole-is_whole.ensures
