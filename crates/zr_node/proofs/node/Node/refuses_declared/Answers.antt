use Rattle.std.proofs.Common.{◌≡◌, true, option_map, sym, ap, subst, ◌∙◌}
use Rattle.std.specs.Option.{option_or}
use Rattle.zr_local.specs.State.{refuses_declare}
use Rattle.zr_local.specs.declared.row.Row.{Row}
use Rattle.zr_node_spec.specs.State.{NodeState, local_state}
use Rattle.zr_node_spec.specs.Table.{local_error, refuses_declared, refuses_rows, row, rows_declared}
use Rattle.zr_node_spec.specs.Tables.{leads_to_client}
use Rattle.zr_node.specs.Answer.{IsFound}
use Rattle.zr_node.proofs.Early.{found_declared, found_nothing}
use Rattle.zr_node.proofs.node.Node.refuses_declared.Goals as goal

pub returns-then-not-leads_to_client : goal.returns-then-not-leads_to_client
returns-then-not-leads_to_client c =
    let n : NodeState = c.args.self.now in
    let r : Row = row c.args.link.0 c.args.id c.args.kind c.args.key.now in
    found_nothing (leads_to_client n.links c.args.link.0) (option_or (option_map (λ x. local_error r.id x) (refuses_declare (local_state n) r)) (refuses_rows n (rows_declared n c.args.link.0 r)))
    (sym c.leads_to_client.ensures ∙ c.if-not-leads_to_client.true)

pub returns : goal.returns
returns c =
    let node : NodeState = record { links = c.self.inside.links; base = c.self.inside.base; rows = c.self.inside.local.rows; clients = c.self.inside.local.clients; known = c.self.inside.known; pending = c.self.inside.pending.rows; held = c.self.inside.pending.held; spent = c.self.inside.spent } in
    let r : Row = row c.args.link.0 c.args.id c.args.kind c.args.key.now in
    let lead : leads_to_client node.links c.args.link.0 ≡ true = subst (λ (m : NodeState). leads_to_client m.links c.args.link.0 ≡ true) (sym c.self.view_is) (sym c.leads_to_client.ensures ∙ c.if-not-leads_to_client.false) in
    subst (λ (m : NodeState). IsFound (refuses_declared m c.args.link.0 r) c.told_as.result) c.self.view_is
    (found_declared node c.args.link.0 c.told_as.result r lead (c.told_as.ensures ∙ ap (option_map (λ x. local_error c.args.id x)) c.refuses_declare.ensures))
