use Rattle.zr_router_queue.proofs.Plans.{writable_on}
use Rattle.zr_router_queue.proofs.pack.only.Goals as goal

pub returns-clause-writable : goal.returns-clause-writable
returns-clause-writable c = writable_on c.args.link c.args.sent.now c.in_ok-msg.msg.now c.in_ok-msg.ensures.0 c.requires.writable c.in_ok-msg.ensures.1
