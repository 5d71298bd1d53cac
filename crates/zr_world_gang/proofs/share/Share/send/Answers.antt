use Rattle.std.proofs.lemmas.Result.{on_ok_weaker}
use Rattle.zr_node_spec.specs.Tables.{link_at}
use Rattle.zr_world_gang.proofs.Steps.{over_peer, over_none}
use Rattle.zr_world_gang.proofs.share.Share.send.Goals as goal

pub returns-in-Some : goal.returns-in-Some
returns-in-Some c =
    on_ok_weaker c.send_to.result
    (λ h. over_peer c.args.self.now c.send_to.new.self c.args.tag (link_at c.args.self.now.hub.node.links c.args.to.0) c.args.msg c.in-Some.peer c.in-Some.ensures h) c.send_to.ensures

pub returns-in-None : goal.returns-in-None
returns-in-None c = over_none c.args.self.now c.args.tag (link_at c.args.self.now.hub.node.links c.args.to.0) c.args.msg c.in-None.ensures
