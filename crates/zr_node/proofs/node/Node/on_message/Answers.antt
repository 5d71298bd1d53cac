use Rattle.std.proofs.Common.{sym, ◌∙◌}
use Rattle.zr_node.proofs.Messages.{unheard}
use Rattle.zr_node.proofs.node.Node.on_message.Goals as goal

pub returns-in-Told : goal.returns-in-Told
returns-in-Told c = unheard c.args.self.now c.args.link.0 c.args.msg.now c.args.out.now.items (sym c.group.ensures ∙ c.in-Told.is)
