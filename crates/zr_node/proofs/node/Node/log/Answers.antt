use Rattle.std.proofs.Common.{ℕ, List, subst, ◌∙◌}
use Rattle.zr_push_sought.specs.Holders.{HoldJust}
use Rattle.zr_push_sought.specs.Pairs.{all_declared}
use Rattle.zr_node_spec.specs.Tables.{TableState}
use Rattle.zr_node.proofs.node.Node.log.Goals as goal

pub invariant_of-self : goal.invariant_of-self
invariant_of-self c =
    let now : TableState = record { links = c.self.inside.links; base = c.self.inside.base; rows = c.self.inside.local.rows; clients = c.self.inside.local.clients; known = c.log.new.known } in
    record {
      links = c.self.invariant.links;
      own = c.log.ensures.me ∙ c.self.invariant.own;
      family = c.self.invariant.family;
      trees = c.self.invariant.trees;
      holders =
          subst (λ (me : List ℕ). HoldJust (all_declared c.self.inside.local.rows me c.self.inside.known.logs) c.self.inside.holders → HoldJust (all_declared c.self.inside.local.rows me c.log.new.known.logs) c.log.new.holders) c.self.invariant.own
          (c.log.ensures.holders c.self.inside.local.rows) c.self.invariant.holders;
      routes = c.forget.ensures now;
    }
