use Rattle.std.proofs.Common.{refl}
use Rattle.zr_node.proofs.Parts.{message_done}
use Rattle.zr_node.proofs.node.Node.on_routed.Goals as goal

pub returns-in-Push : goal.returns-in-Push
returns-in-Push c = message_done c.args.self.now c.args.link.0 _ c.args.msg.now c.in-Push.is c.push.result c.push.new.self c.args.out.now.items c.push.new.out.items _ c.push.ensures refl refl (λ to. refl) refl refl

pub returns-in-Request : goal.returns-in-Request
returns-in-Request c = message_done c.args.self.now c.args.link.0 _ c.args.msg.now c.in-Request.is c.request.result c.request.new.self c.args.out.now.items c.request.new.out.items _ c.request.ensures refl refl (λ to. refl) refl refl

pub returns-in-Response : goal.returns-in-Response
returns-in-Response c = message_done c.args.self.now c.args.link.0 _ c.args.msg.now c.in-Response.is c.response.result c.response.new.self c.args.out.now.items c.response.new.out.items _ c.response.ensures refl refl (λ to. refl) refl refl

pub returns-in-Final : goal.returns-in-Final
returns-in-Final c = message_done c.args.self.now c.args.link.0 _ c.args.msg.now c.in-Final.is c.end.result c.end.new.self c.args.out.now.items c.end.new.out.items _ c.end.ensures refl refl (λ to. refl) refl refl
