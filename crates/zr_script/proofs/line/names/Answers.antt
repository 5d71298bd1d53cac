-- Two words were taken, and each is a name.
use Rattle.std.proofs.lemmas.Result.{err_from_is_err_and}
use Rattle.zr_script.proofs.Leading.{names_words, names_stay, names_stay_last, names_lead}
use Rattle.zr_script.proofs.line.names.Goals as goal

pub returns : goal.returns
returns c = names_lead _ _ _ _ _ c.in_ok-one.ensures c.in_ok-one-2.ensures c.in_ok-other.ensures

pub returns-in_err-one : goal.returns-in_err-one
returns-in_err-one c =
    let p = err_from_is_err_and c.from_residual.result c.from_residual.ensures.1 in
    rw (p.1, p.2) (names_words _ _ c.in_err-one.ensures)

pub returns-in_err-one-2 : goal.returns-in_err-one-2
returns-in_err-one-2 c =
    let p = err_from_is_err_and c.from_residual-in_err-one-2.result c.from_residual-in_err-one-2.ensures.1 in
    rw (p.1, p.2) (names_stay _ _ _ _ c.in_ok-one.ensures c.in_err-one-2.ensures)

pub returns-in_err-other : goal.returns-in_err-other
returns-in_err-other c =
    let p = err_from_is_err_and c.from_residual-in_err-other.result c.from_residual-in_err-other.ensures.1 in
    rw (p.1, p.2) (names_stay_last _ _ _ _ _ c.in_ok-one.ensures c.in_ok-one-2.ensures c.in_err-other.ensures)
