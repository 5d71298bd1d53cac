-- A name and a number.
use Rattle.std.proofs.lemmas.Result.{err_from_is_err_and}
use Rattle.zr_script.proofs.Leading.{numbered_stay, numbered_stay_last, numbered_lead}
use Rattle.zr_script.proofs.line.numbered_words.Goals as goal

pub returns : goal.returns
returns c = numbered_lead c.args.client.now c.args.id.now _ _ c.in_ok-client.ensures c.in_ok-id.ensures

pub returns-in_err-client : goal.returns-in_err-client
returns-in_err-client c =
    let p = err_from_is_err_and c.from_residual.result c.from_residual.ensures.1 in
    rw (p.1, p.2) (numbered_stay c.args.client.now c.args.id.now _ c.in_err-client.ensures)

pub returns-in_err-id : goal.returns-in_err-id
returns-in_err-id c =
    let p = err_from_is_err_and c.from_residual-in_err-id.result c.from_residual-in_err-id.ensures.1 in
    rw (p.1, p.2) (numbered_stay_last c.args.client.now c.args.id.now _ _ c.in_ok-client.ensures c.in_err-id.ensures)
