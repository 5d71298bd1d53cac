use Rattle.std.proofs.Common.{sym, subst}
use Rattle.std.proofs.lemmas.Result.{on_ok_weaker}
use Rattle.zr_wire.specs.Sending.{MayBeSent}
use Rattle.zr_netrun_batches.specs.Line.{LineState}
use Rattle.zr_netrun_batches.specs.Coming.{ComesOn, coming}
use Rattle.zr_netrun_batches.proofs.Feeding.{line_sent}
use Rattle.zr_netrun_batches.proofs.line.Line.send.Goals as goal

pub returns-else-is_err-clause-sent : goal.returns-else-is_err-clause-sent
returns-else-is_err-clause-sent c =
    let l = c.self.inside in
    on_ok_weaker c.write-sent.result
    (λ (h : ComesOn l.outbox l.wire c.args.msg.now c.write-sent.new.outbox c.write-sent.new.wire).
    line_sent l.role l.spent l.ready.items (coming l.session l.wire) (coming l.session c.write-sent.new.wire) c.args.msg.now c.args.self.now c.if-self.false c.self.view_is
    (h l.role l.session (subst (λ (z : LineState). MayBeSent z.role c.args.msg.now) (sym c.self.view_is) c.requires) (c.self.invariant c.if-self.false).0).1) c.write-sent.ensures
