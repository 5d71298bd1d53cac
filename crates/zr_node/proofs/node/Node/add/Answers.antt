use Rattle.zr_node_spec.specs.Event.{IsFresh}
use Rattle.zr_node_spec.specs.State.{NodeState}
use Rattle.zr_node.proofs.Staying.{are_links_after}
use Rattle.zr_node_spec.specs.Tables.{TableState}
use Rattle.zr_node.proofs.node.Node.add.Goals as goal

pub invariant_of-self : goal.invariant_of-self
invariant_of-self c =
    let node : NodeState = record { links = c.self.inside.links; base = c.self.inside.base; rows = c.self.inside.local.rows; clients = c.self.inside.local.clients; known = c.self.inside.known; pending = c.self.inside.pending.rows; held = c.self.inside.pending.held; spent = c.self.inside.spent } in
    let fresh : IsFresh node c.args.link c.args.peer.now = rw (← c.self.view_is) at c.requires in
    let now : TableState = record { links = c.add.new.self; base = c.self.inside.base; rows = c.self.inside.local.rows; clients = c.self.inside.local.clients; known = c.self.inside.known } in
    record {
      links = are_links_after c.add.result node c.args.link c.args.peer.now c.add.new.self fresh c.self.invariant.links c.add.ensures.ok c.add.ensures.err;
      own = c.self.invariant.own;
      family = c.self.invariant.family;
      trees = c.self.invariant.trees;
      holders = c.self.invariant.holders;
      routes = c.forget.ensures now;
    }
