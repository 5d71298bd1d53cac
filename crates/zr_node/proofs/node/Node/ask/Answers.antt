use Rattle.std.proofs.Common.{◌≡◌, ◌&&◌, Bool, List, Option, None, sym, ap, subst, ◌∙◌}
use Rattle.std.specs.Prelude.{IfSome}
use Rattle.zr_id.specs.Record.{RecordState}
use Rattle.zr_body.specs.Latest.{is_latest}
use Rattle.zr_node_spec.specs.Queries.{asked_links, gathering_if}
use Rattle.zr_node_spec.specs.Tables.{TableState, leads_to_client}
use Rattle.zr_node_spec.specs.State.{NodeState}
use Rattle.zr_node.specs.Done.{IsLeft, IsDone}
use Rattle.zr_node.specs.Requests.{refuses_asker}
use Rattle.zr_push.specs.Routes.{AreRoutes}
use Rattle.zr_push_sought.specs.Holders.{HoldJust}
use Rattle.zr_push_sought.specs.Pairs.{declared_by}
use Rattle.zr_node.specs.Steps.{request_part, with_table}
use Rattle.zr_node.proofs.Done.{nothing_sent}
use Rattle.zr_node.proofs.Requests.{request_failed, request_late, request_left}
use Rattle.zr_node.proofs.node.Node.ask.Goals as goal

pub returns-in_err-asked : goal.returns-in_err-asked
returns-in_err-asked c =
    let node : NodeState = record { links = c.self.inside.links; base = c.self.inside.base; rows = c.self.inside.local.rows; clients = c.self.inside.local.clients; known = c.self.inside.known; pending = c.self.inside.pending.rows; held = c.self.inside.pending.held; spent = c.self.inside.spent } in
    let allowed : refuses_asker node.pending c.args.from (leads_to_client node.links c.args.from.link.0) ≡ None =
    subst (λ (m : NodeState). refuses_asker m.pending c.args.from (leads_to_client m.links c.args.from.link.0) ≡ None) (sym c.self.view_is) c.requires.allowed in
    subst (λ (m : NodeState). IsDone (request_part m c.args.from.link.0 c.args.named c.args.from.number c.args.target c.args.content.now) c.from_residual-in_err-asked.result (with_table node c.ask-asked.new.pending) c.args.out.now.items c.ask-asked.new.out.items) c.self.view_is
    (request_failed node c.args.from.link.0 c.args.from.number c.args.named c.args.target c.args.content.now allowed c.lend-tables.result c.lend-tables.ensures c.ask-asked.new.pending c.args.out.now.items c.ask-asked.new.out.items
    c.in_err-asked.field-0.0 c.from_residual-in_err-asked.result c.from_residual-in_err-asked.ensures.1 c.in_err-asked.ensures.full c.in_err-asked.ensures.unchanged c.in_err-asked.ensures.prefix)

pub returns : goal.returns
returns c =
    let node : NodeState = record { links = c.self.inside.links; base = c.self.inside.base; rows = c.self.inside.local.rows; clients = c.self.inside.local.clients; known = c.self.inside.known; pending = c.self.inside.pending.rows; held = c.self.inside.pending.held; spent = c.self.inside.spent } in
    let allowed : refuses_asker node.pending c.args.from (leads_to_client node.links c.args.from.link.0) ≡ None =
    subst (λ (m : NodeState). refuses_asker m.pending c.args.from (leads_to_client m.links c.args.from.link.0) ≡ None) (sym c.self.view_is) c.requires.allowed in
    let latest : c.args.latest ≡ (leads_to_client node.links c.args.from.link.0 && is_latest c.args.content.now.body) =
    subst (λ (m : NodeState). c.args.latest ≡ (leads_to_client m.links c.args.from.link.0 && is_latest c.args.content.now.body)) (sym c.self.view_is) c.requires.latest in
    subst (λ (m : NodeState). IsLeft (request_part m c.args.from.link.0 c.args.named c.args.from.number c.args.target c.args.content.now) (with_table node c.ask-asked.new.pending) c.args.out.now.items c.ask-asked.new.out.items) c.self.view_is
    (request_left node c.args.from.link.0 c.args.from.number c.args.named c.args.target c.args.content.now allowed c.lend-tables.result c.lend-tables.ensures c.ask-asked.new.pending c.args.out.now.items c.ask-asked.new.out.items
    c.in_ok-asked.ensures.sends c.in_ok-asked.ensures.rows
    (c.in_ok-asked.ensures.held ∙ ap (λ (b : Bool). gathering_if node.held b c.args.from (asked_links c.lend-tables.result c.args.from.link.0 c.args.named c.args.target c.args.content.now.key)) latest)
    c.in_ok-asked.ensures.room)

pub invariant_of-self-in_err-asked : goal.invariant_of-self-in_err-asked
invariant_of-self-in_err-asked c =
    record {
      links = c.self.invariant.links;
      own = c.self.invariant.own;
      family = c.self.invariant.family;
      trees = subst (λ (o : Option (List RecordState)). IfSome o (λ r. r ≡ c.self.inside.base.records)) (sym c.put_trees.ensures) c.in_ok-trees.ensures.trees;
      holders = subst (λ (t : TableState). HoldJust (declared_by t) c.ask-asked.new.holders) c.lend-tables.ensures c.ask-asked.ensures.holders;
      routes = subst (λ (t : TableState). AreRoutes c.ask-asked.new.routes t) c.lend-tables.ensures c.ask-asked.ensures.routes;
    }

pub invariant_of-self-2 : goal.invariant_of-self-2
invariant_of-self-2 c =
    record {
      links = c.self.invariant.links;
      own = c.self.invariant.own;
      family = c.self.invariant.family;
      trees = subst (λ (o : Option (List RecordState)). IfSome o (λ r. r ≡ c.self.inside.base.records)) (sym c.put_trees.ensures) c.in_ok-trees.ensures.trees;
      holders = subst (λ (t : TableState). HoldJust (declared_by t) c.ask-asked.new.holders) c.lend-tables.ensures c.ask-asked.ensures.holders;
      routes = subst (λ (t : TableState). AreRoutes c.ask-asked.new.routes t) c.lend-tables.ensures c.ask-asked.ensures.routes;
    }

pub returns-in_err-trees : goal.returns-in_err-trees
returns-in_err-trees c =
    nothing_sent (request_part c.args.self.now c.args.from.link.0 c.args.named c.args.from.number c.args.target c.args.content.now) c.from_residual.result _ c.args.out.now.items c.from_residual.ensures.1
    (request_late c.args.self.now c.args.from.link.0 c.args.from.number c.args.named c.args.target c.args.content.now c.requires.allowed)
