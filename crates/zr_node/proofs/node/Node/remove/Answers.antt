use Rattle.std.proofs.Common.{ℕ, List, sym, subst}
use Rattle.zr_node_spec.specs.Event.{AreLinks}
use Rattle.zr_msg.specs.declared.peer.LinkPeer.{LinkPeer}
use Rattle.zr_node_spec.proofs.AreLinks.{are_links_down}
use Rattle.zr_node_spec.specs.Tables.{TableState}
use Rattle.zr_node.proofs.node.Node.remove.Goals as goal

pub invariant_of-self : goal.invariant_of-self
invariant_of-self c =
    let me : List ℕ = c.self.inside.base.me in
    let now : TableState = record { links = c.remove.new.self; base = c.self.inside.base; rows = c.self.inside.local.rows; clients = c.self.inside.local.clients; known = c.self.inside.known } in
    record {
      links = subst (λ (ls : List LinkPeer). AreLinks me ls) (sym c.remove.ensures) (are_links_down me c.self.inside.links c.args.link.0 c.self.invariant.links);
      own = c.self.invariant.own;
      family = c.self.invariant.family;
      trees = c.self.invariant.trees;
      holders = c.self.invariant.holders;
      routes = c.forget.ensures now;
    }
