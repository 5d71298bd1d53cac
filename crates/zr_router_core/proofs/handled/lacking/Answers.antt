use Rattle.std.proofs.Common.{[]}
use Rattle.zr_router_core.proofs.Joined.{refused_both}
use Rattle.zr_router_core.proofs.handled.lacking.Goals as goal

pub returns-in-Some : goal.returns-in-Some
returns-in-Some c = refused_both c.args.node.now [] c.args.event.now c.in-Some.error c.in-Some.ensures

pub returns-in-None : goal.returns-in-None
returns-in-None c = c.in-None.ensures
