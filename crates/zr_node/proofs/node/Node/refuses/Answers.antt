use Rattle.zr_node.proofs.Early.{found_from, found_moved}
use Rattle.zr_node.proofs.node.Node.refuses.Goals as goal

pub returns-in-Up : goal.returns-in-Up
returns-in-Up c = found_moved c.args.self.now c.args.event.now c.in-Up.is

pub returns-in-From : goal.returns-in-From
returns-in-From c = found_from c.args.self.now c.args.event.now _ _ c.refuses_message.result c.in-From.is c.refuses_message.ensures
