use Rattle.zr_router_glance.proofs.InOrder.{put_there}
use Rattle.zr_router_glance.proofs.peers.put.Goals as goal

pub returns-in-Ok : goal.returns-in-Ok
returns-in-Ok c = put_there c.args.peers.now.items c.args.peer c.in-Ok.at (rw c.in-Ok.is at c.requires)
