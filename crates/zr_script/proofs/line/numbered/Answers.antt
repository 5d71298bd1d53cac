-- Two words were taken: a name and a number.
use Rattle.std.proofs.lemmas.Result.{err_from_is_err_and}
use Rattle.zr_script.proofs.Leading.{pair_words, pair_lead}
use Rattle.zr_script.proofs.line.numbered.Goals as goal

pub returns : goal.returns
returns c = pair_lead _ _ _ _ c.in_ok-client.ensures c.numbered_words.ensures

pub returns-in_err-client : goal.returns-in_err-client
returns-in_err-client c =
    let p = err_from_is_err_and c.from_residual.result c.from_residual.ensures.1 in
    rw (p.1, p.2) (pair_words _ _ c.in_err-client.ensures)
