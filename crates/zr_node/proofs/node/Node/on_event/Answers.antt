use Rattle.zr_node.proofs.Parts.{at_event}
use Rattle.zr_node.proofs.node.Node.on_event.Goals as goal

pub returns-in-Up : goal.returns-in-Up
returns-in-Up c = at_event c.args.self.now c.args.event.now _ c.in-Up.is c.up.result c.up.new.self c.args.out.now.items c.up.new.out.items c.up.ensures

pub returns-in-Down : goal.returns-in-Down
returns-in-Down c = at_event c.args.self.now c.args.event.now _ c.in-Down.is c.down.result c.down.new.self c.args.out.now.items c.down.new.out.items c.down.ensures

pub returns-in-From : goal.returns-in-From
returns-in-From c = at_event c.args.self.now c.args.event.now _ c.in-From.is c.on_message.result c.on_message.new.self c.args.out.now.items c.on_message.new.out.items c.on_message.ensures
