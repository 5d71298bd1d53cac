-- Three words were taken: a name, a number and a key.
use Rattle.std.proofs.lemmas.Result.{err_from_is_err_and}
use Rattle.zr_script.proofs.Leading.{keyed_words, keyed_stay, keyed_stay_last, keyed_lead}
use Rattle.zr_script.proofs.line.keyed.Goals as goal

pub returns : goal.returns
returns c = keyed_lead _ _ _ _ _ _ _ c.in_ok-client.ensures c.in_ok-client-2.ensures c.in_ok-key.ensures

pub returns-in_err-client : goal.returns-in_err-client
returns-in_err-client c =
    let p = err_from_is_err_and c.from_residual.result c.from_residual.ensures.1 in
    rw (p.1, p.2) (keyed_words _ _ c.in_err-client.ensures)

pub returns-in_err-client-2 : goal.returns-in_err-client-2
returns-in_err-client-2 c =
    let p = err_from_is_err_and c.from_residual-in_err-client-2.result c.from_residual-in_err-client-2.ensures.1 in
    rw (p.1, p.2) (keyed_stay _ _ _ _ _ c.in_ok-client.ensures c.in_err-client-2.ensures)

pub returns-in_err-key : goal.returns-in_err-key
returns-in_err-key c =
    let p = err_from_is_err_and c.from_residual-in_err-key.result c.from_residual-in_err-key.ensures.1 in
    rw (p.1, p.2) (keyed_stay_last _ _ _ _ _ _ _ c.in_ok-client.ensures c.in_ok-client-2.ensures c.in_err-key.ensures)
