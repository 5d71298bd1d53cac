-- The words are read one behind the other.
use Rattle.std.proofs.lemmas.Result.{err_from_is_err_and}
use Rattle.zr_script.proofs.Lines.{get_words, get_stays, get_stays_target, get_stays_latest, get_stays_key, get_leads}
use Rattle.zr_script.proofs.line.get.Goals as goal

pub returns : goal.returns
returns c = get_leads _ _ _ _ _ _ c.in_ok-client.ensures _ _ c.in_ok-client-2.ensures _ c.in_ok-target.ensures _ c.in_ok-latest.ensures _ c.in_ok-key.ensures _ c.ask.ensures

pub returns-in_err-client : goal.returns-in_err-client
returns-in_err-client c =
    let p = err_from_is_err_and c.from_residual.result c.from_residual.ensures.1 in
    rw (p.1, p.2) (get_words _ _ c.in_err-client.ensures)

pub returns-in_err-client-2 : goal.returns-in_err-client-2
returns-in_err-client-2 c =
    let p = err_from_is_err_and c.from_residual-in_err-client-2.result c.from_residual-in_err-client-2.ensures.1 in
    rw (p.1, p.2) (get_stays _ _ _ _ _ _ c.in_ok-client.ensures _ c.in_err-client-2.ensures)

pub returns-in_err-target : goal.returns-in_err-target
returns-in_err-target c =
    let p = err_from_is_err_and c.from_residual-in_err-target.result c.from_residual-in_err-target.ensures.1 in
    rw (p.1, p.2) (get_stays_target _ _ _ _ _ _ c.in_ok-client.ensures _ _ c.in_ok-client-2.ensures _ c.in_err-target.ensures)

pub returns-in_err-latest : goal.returns-in_err-latest
returns-in_err-latest c =
    let p = err_from_is_err_and c.from_residual-in_err-latest.result c.from_residual-in_err-latest.ensures.1 in
    rw (p.1, p.2) (get_stays_latest _ _ _ _ _ _ c.in_ok-client.ensures _ _ c.in_ok-client-2.ensures _ c.in_ok-target.ensures _ c.in_err-latest.ensures)

pub returns-in_err-key : goal.returns-in_err-key
returns-in_err-key c =
    let p = err_from_is_err_and c.from_residual-in_err-key.result c.from_residual-in_err-key.ensures.1 in
    rw (p.1, p.2) (get_stays_key _ _ _ _ _ _ c.in_ok-client.ensures _ _ c.in_ok-client-2.ensures _ c.in_ok-target.ensures _ c.in_ok-latest.ensures _ c.in_err-key.ensures)
