use Rattle.zr_told.proofs.Plans.{all_plan, all_last, all_lacks}
use Rattle.zr_told.proofs.plan.plan_of.Goals as goal

pub returns-clause-plan : goal.returns-clause-plan
returns-clause-plan c =
    all_plan c.args.book.now c.args.others.now c.args.interests.now _ _ c.in_ok-marks.ensures c.plan_by.ensures.ascends c.plan_by.ensures.marks_ascend _ c.plan_by.ensures.gone c.plan_by.ensures.fresh c.plan_by.ensures.small c.plan_by.ensures.ids

pub returns-clause-ids : goal.returns-clause-ids
returns-clause-ids c = all_last c.args.book.now c.args.others.now c.args.interests.now _ _ c.in_ok-marks.ensures c.plan_by.ensures.ascends c.plan_by.ensures.marks_ascend _ c.plan_by.ensures.ids

pub returns-clause-worn : goal.returns-clause-worn
returns-clause-worn c = λ e. all_lacks c.args.book.now c.args.others.now c.args.interests.now _ _ c.in_ok-marks.ensures c.plan_by.ensures.ascends c.plan_by.ensures.marks_ascend (c.plan_by.ensures.worn e)
