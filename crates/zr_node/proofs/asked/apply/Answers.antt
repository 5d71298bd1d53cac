use Rattle.zr_node.proofs.Judged.{judged, if_answered, on_answered, on_failed}
use Rattle.zr_node.proofs.asked.apply.Goals as goal

pub returns-in-Declare-clause-gone : goal.returns-in-Declare-clause-gone
returns-in-Declare-clause-gone c = rw (c.answer.ensures, c.in-Declare.is) (if_answered _ _ c.declare.result c.declare.ensures.gone)

pub returns-in-Declare-clause-came : goal.returns-in-Declare-clause-came
returns-in-Declare-clause-came c = rw (c.answer.ensures, c.in-Declare.is) (if_answered _ _ c.declare.result c.declare.ensures.came)

pub returns-in-Declare-clause-value : goal.returns-in-Declare-clause-value
returns-in-Declare-clause-value c = rw (c.answer.ensures, c.in-Declare.is) (on_answered _ _ c.declare.result c.declare.ensures.value)

pub returns-in-Declare-clause-refused : goal.returns-in-Declare-clause-refused
returns-in-Declare-clause-refused c = rw (c.answer.ensures, c.in-Declare.is) (rw c.declare.ensures.refused (judged _ c.declare.result))

pub returns-in-Declare-clause-unchanged : goal.returns-in-Declare-clause-unchanged
returns-in-Declare-clause-unchanged c = rw c.answer.ensures (on_failed _ _ c.declare.result c.declare.ensures.unchanged)

pub returns-in-Undeclare-clause-gone : goal.returns-in-Undeclare-clause-gone
returns-in-Undeclare-clause-gone c = rw (c.answer-in-Undeclare.ensures, c.in-Undeclare.is) (if_answered _ _ c.undeclare.result c.undeclare.ensures.gone)

pub returns-in-Undeclare-clause-came : goal.returns-in-Undeclare-clause-came
returns-in-Undeclare-clause-came c = rw (c.answer-in-Undeclare.ensures, c.in-Undeclare.is) (if_answered _ _ c.undeclare.result c.undeclare.ensures.came)

pub returns-in-Undeclare-clause-value : goal.returns-in-Undeclare-clause-value
returns-in-Undeclare-clause-value c = rw (c.answer-in-Undeclare.ensures, c.in-Undeclare.is) (on_answered _ _ c.undeclare.result c.undeclare.ensures.value)

pub returns-in-Undeclare-clause-refused : goal.returns-in-Undeclare-clause-refused
returns-in-Undeclare-clause-refused c = rw (c.answer-in-Undeclare.ensures, c.in-Undeclare.is) (rw c.undeclare.ensures.refused (judged _ c.undeclare.result))

pub returns-in-Undeclare-clause-unchanged : goal.returns-in-Undeclare-clause-unchanged
returns-in-Undeclare-clause-unchanged c = rw c.answer-in-Undeclare.ensures (on_failed _ _ c.undeclare.result c.undeclare.ensures.unchanged)
