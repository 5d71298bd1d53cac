use Rattle.zr_told.proofs.Plans.{change_plan, change_last, change_lacks}
use Rattle.zr_told.proofs.plan.plan_at.Goals as goal

pub returns-clause-plan : goal.returns-clause-plan
returns-clause-plan c =
    change_plan c.args.book.now _ c.args.client.now.interests c.args.places.now c.requires _ c.in_ok-marks.ensures c.plan_by.ensures.ascends c.plan_by.ensures.marks_ascend _ c.plan_by.ensures.gone c.plan_by.ensures.fresh c.plan_by.ensures.small c.plan_by.ensures.ids

pub returns-clause-ids : goal.returns-clause-ids
returns-clause-ids c = change_last c.args.book.now _ c.args.client.now.interests c.args.places.now c.requires _ c.in_ok-marks.ensures c.plan_by.ensures.ascends c.plan_by.ensures.marks_ascend _ c.plan_by.ensures.ids

pub returns-clause-worn : goal.returns-clause-worn
returns-clause-worn c = λ e. change_lacks c.args.book.now _ c.args.client.now.interests c.args.places.now c.requires _ c.in_ok-marks.ensures c.plan_by.ensures.ascends c.plan_by.ensures.marks_ascend (c.plan_by.ensures.worn e)
