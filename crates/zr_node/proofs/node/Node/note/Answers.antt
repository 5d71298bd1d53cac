use Rattle.zr_node_spec.specs.Tables.{TableState}
use Rattle.zr_node.proofs.Parts.{rows_kept}
use Rattle.zr_node.proofs.Remembering.{holders_stay, routes_stay}
use Rattle.zr_node.proofs.node.Node.note.Goals as goal

pub invariant_of-self : goal.invariant_of-self
invariant_of-self c =
    let before : TableState = record { links = c.self.inside.links; base = c.self.inside.base; rows = c.self.inside.local.rows; clients = c.self.inside.local.clients; known = c.self.inside.known } in
    record {
      links = c.self.invariant.links;
      own = c.self.invariant.own;
      family = c.self.invariant.family;
      trees = c.self.invariant.trees;
      holders = holders_stay c.self.inside.holders before c.interest.new.self (rows_kept c.interest.result c.self.inside.local c.interest.new.self _ c.interest.ensures.value c.interest.ensures.unchanged) c.self.invariant.holders;
      routes = routes_stay c.self.inside.routes before c.interest.new.self (rows_kept c.interest.result c.self.inside.local c.interest.new.self _ c.interest.ensures.value c.interest.ensures.unchanged) c.self.invariant.routes;
    }
