use Rattle.zr_node_spec.specs.Tables.{TableState}
use Rattle.zr_node.proofs.node.Node.apply.Goals as goal

pub invariant_of-self : goal.invariant_of-self
invariant_of-self c =
    let now : TableState = record { links = c.self.inside.links; base = c.self.inside.base; rows = c.apply.new.local.rows; clients = c.apply.new.local.clients; known = c.self.inside.known } in
    record {
      links = c.self.invariant.links;
      own = c.self.invariant.own;
      family = c.self.invariant.family;
      trees = c.self.invariant.trees;
      holders = c.apply.ensures.holders c.self.inside.base.me c.self.inside.known.logs c.self.invariant.holders;
      routes = c.forget.ensures now;
    }
