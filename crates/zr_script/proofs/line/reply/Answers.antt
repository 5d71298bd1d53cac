-- The words are read one behind the other, and the payload is that of a short word.
use Rattle.std.proofs.lemmas.Result.{err_from_is_err_and}
use Rattle.zr_script_spec.specs.Words.{words}
use Rattle.zr_script.proofs.Lines.{reply_words, reply_stays, reply_stays_time, reply_stays_key, reply_leads}
use Rattle.zr_script.proofs.Words.{fourth_short}
use Rattle.zr_script.proofs.line.reply.Goals as goal

pub answer-requires : goal.answer-requires
answer-requires c = rw c.payload.ensures (fourth_short (words c.args.args.now) _ _ _ _ _ c.requires c.in_ok-client.ensures)

pub returns : goal.returns
returns c =
    reply_leads _ _ _ _ _ _ c.in_ok-client.ensures _ _ c.in_ok-client-2.ensures _ c.in_ok-time.ensures _ c.in_ok-key.ensures _ (rw (← c.payload.ensures) c.answer.ensures)

pub returns-in_err-client : goal.returns-in_err-client
returns-in_err-client c =
    let p = err_from_is_err_and c.from_residual.result c.from_residual.ensures.1 in
    rw (p.1, p.2) (reply_words _ _ c.in_err-client.ensures)

pub returns-in_err-client-2 : goal.returns-in_err-client-2
returns-in_err-client-2 c =
    let p = err_from_is_err_and c.from_residual-in_err-client-2.result c.from_residual-in_err-client-2.ensures.1 in
    rw (p.1, p.2) (reply_stays _ _ _ _ _ _ c.in_ok-client.ensures _ c.in_err-client-2.ensures)

pub returns-in_err-time : goal.returns-in_err-time
returns-in_err-time c =
    let p = err_from_is_err_and c.from_residual-in_err-time.result c.from_residual-in_err-time.ensures.1 in
    rw (p.1, p.2) (reply_stays_time _ _ _ _ _ _ c.in_ok-client.ensures _ _ c.in_ok-client-2.ensures _ c.in_err-time.ensures)

pub returns-in_err-key : goal.returns-in_err-key
returns-in_err-key c =
    let p = err_from_is_err_and c.from_residual-in_err-key.result c.from_residual-in_err-key.ensures.1 in
    rw (p.1, p.2) (reply_stays_key _ _ _ _ _ _ c.in_ok-client.ensures _ _ c.in_ok-client-2.ensures _ c.in_ok-time.ensures _ c.in_err-key.ensures)
