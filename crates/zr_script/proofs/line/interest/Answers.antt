-- The words are read one behind the other.
use Rattle.std.proofs.lemmas.Result.{err_from_is_err_and}
use Rattle.zr_script.proofs.Lines.{interest_words, interest_stays, interest_stays_next, interest_stays_last, interest_leads}
use Rattle.zr_script.proofs.line.interest.Goals as goal

pub returns : goal.returns
returns c = interest_leads _ _ _ _ _ _ _ c.in_ok-client.ensures _ _ c.in_ok-client-2.ensures _ _ _ c.in_ok-mode.ensures _ c.in_ok-key.ensures

pub returns-in_err-client : goal.returns-in_err-client
returns-in_err-client c =
    let p = err_from_is_err_and c.from_residual.result c.from_residual.ensures.1 in
    rw (p.1, p.2) (interest_words _ _ c.in_err-client.ensures)

pub returns-in_err-client-2 : goal.returns-in_err-client-2
returns-in_err-client-2 c =
    let p = err_from_is_err_and c.from_residual-in_err-client-2.result c.from_residual-in_err-client-2.ensures.1 in
    rw (p.1, p.2) (interest_stays _ _ _ _ _ _ _ c.in_ok-client.ensures _ c.in_err-client-2.ensures)

pub returns-in_err-mode : goal.returns-in_err-mode
returns-in_err-mode c =
    let p = err_from_is_err_and c.from_residual-in_err-mode.result c.from_residual-in_err-mode.ensures.1 in
    rw (p.1, p.2) (interest_stays_next _ _ _ _ _ _ _ c.in_ok-client.ensures _ _ c.in_ok-client-2.ensures _ c.in_err-mode.ensures)

pub returns-in_err-key : goal.returns-in_err-key
returns-in_err-key c =
    let p = err_from_is_err_and c.from_residual-in_err-key.result c.from_residual-in_err-key.ensures.1 in
    rw (p.1, p.2) (interest_stays_last _ _ _ _ _ _ _ c.in_ok-client.ensures _ _ c.in_ok-client-2.ensures _ _ _ c.in_ok-mode.ensures _ c.in_err-key.ensures)
