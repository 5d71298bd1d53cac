use Rattle.std.proofs.Common.{sym}
use Rattle.std.proofs.lemmas.Result.{on_ok_weaker}
use Rattle.zr_query.proofs.Told.{reply_told, no_reply_told}
use Rattle.zr_query.proofs.answering.pass_back.Goals as goal

pub returns-in-Some-clause-ok : goal.returns-in-Some-clause-ok
returns-in-Some-clause-ok c = on_ok_weaker _ (reply_told c.args.pending.now.rows c.args.from.0 c.args.number c.args.content.now c.in-Some.asker _ _ (sym c.in-Some.ensures.value)) c.send_reply.ensures.ok

pub returns-in-None-clause-ok : goal.returns-in-None-clause-ok
returns-in-None-clause-ok c = no_reply_told c.args.pending.now.rows c.args.from.0 c.args.number c.args.content.now _ (sym c.in-None.ensures.value)
