-- Two names were taken, and a weight behind them.
use Rattle.std.proofs.lemmas.Result.{err_from_is_err_and}
use Rattle.zr_script.proofs.Leading.{linked_words, linked_stay, linked_stay_next, linked_stay_last, linked_lead}
use Rattle.zr_script.proofs.line.linked.Goals as goal

pub returns : goal.returns
returns c = linked_lead _ _ _ _ _ _ _ c.in_ok-one.ensures c.in_ok-one-2.ensures c.in_ok-other.ensures c.in_ok-weight.ensures

pub returns-in_err-one : goal.returns-in_err-one
returns-in_err-one c =
    let p = err_from_is_err_and c.from_residual.result c.from_residual.ensures.1 in
    rw (p.1, p.2) (linked_words _ _ c.in_err-one.ensures)

pub returns-in_err-one-2 : goal.returns-in_err-one-2
returns-in_err-one-2 c =
    let p = err_from_is_err_and c.from_residual-in_err-one-2.result c.from_residual-in_err-one-2.ensures.1 in
    rw (p.1, p.2) (linked_stay _ _ _ _ _ c.in_ok-one.ensures c.in_err-one-2.ensures)

pub returns-in_err-other : goal.returns-in_err-other
returns-in_err-other c =
    let p = err_from_is_err_and c.from_residual-in_err-other.result c.from_residual-in_err-other.ensures.1 in
    rw (p.1, p.2) (linked_stay_next _ _ _ _ _ _ c.in_ok-one.ensures c.in_ok-one-2.ensures c.in_err-other.ensures)

pub returns-in_err-weight : goal.returns-in_err-weight
returns-in_err-weight c =
    let p = err_from_is_err_and c.from_residual-in_err-weight.result c.from_residual-in_err-weight.ensures.1 in
    rw (p.1, p.2) (linked_stay_last _ _ _ _ _ _ _ c.in_ok-one.ensures c.in_ok-one-2.ensures c.in_ok-other.ensures c.in_err-weight.ensures)
