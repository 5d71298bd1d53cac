use Rattle.zr_netrun_batches.proofs.Tags.{on_both, wire_sent}
use Rattle.zr_netrun_batches.proofs.way.Way.send.Goals as goal

pub returns-else-is_err-clause-sent : goal.returns-else-is_err-clause-sent
returns-else-is_err-clause-sent c =
    let w = c.self.inside in
    on_both c.send-sent.result (wire_sent w.line c.send-sent.new.line w.tags.items c.send-sent.new.tags.items c.args.self.now c.args.msg.now c.args.tag c.self.invariant c.self.view_is)
    c.send-sent.ensures.line c.send-sent.ensures.tags
