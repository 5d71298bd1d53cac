use Rattle.std.proofs.Common.{◌≡◌, true, option_map, sym, ap, subst, ◌∙◌}
use Rattle.std.specs.Option.{option_or}
use Rattle.zr_local.specs.Rows.{Key, refuses_undeclare}
use Rattle.zr_node_spec.specs.State.{NodeState}
use Rattle.zr_node_spec.specs.Table.{key_of, local_error, refuses_rows, refuses_undeclared, rows_undeclared}
use Rattle.zr_node_spec.specs.Tables.{leads_to_client}
use Rattle.zr_node.specs.Answer.{IsFound}
use Rattle.zr_node.proofs.Early.{found_nothing, found_undeclared}
use Rattle.zr_node.proofs.node.Node.refuses_undeclared.Goals as goal

pub returns-then-not-leads_to_client : goal.returns-then-not-leads_to_client
returns-then-not-leads_to_client c =
    let n : NodeState = c.args.self.now in
    let k : Key = key_of c.args.link.0 c.args.id c.args.kind in
    found_nothing (leads_to_client n.links c.args.link.0) (option_or (option_map (λ x. local_error k.id x) (refuses_undeclare n.rows k)) (refuses_rows n (rows_undeclared n c.args.link.0 k)))
    (sym c.leads_to_client.ensures ∙ c.if-not-leads_to_client.true)

pub returns : goal.returns
returns c =
    let node : NodeState = record { links = c.self.inside.links; base = c.self.inside.base; rows = c.self.inside.local.rows; clients = c.self.inside.local.clients; known = c.self.inside.known; pending = c.self.inside.pending.rows; held = c.self.inside.pending.held; spent = c.self.inside.spent } in
    let k : Key = key_of c.args.link.0 c.args.id c.args.kind in
    let lead : leads_to_client node.links c.args.link.0 ≡ true = subst (λ (m : NodeState). leads_to_client m.links c.args.link.0 ≡ true) (sym c.self.view_is) (sym c.leads_to_client.ensures ∙ c.if-not-leads_to_client.false) in
    subst (λ (m : NodeState). IsFound (refuses_undeclared m c.args.link.0 k) c.told_as.result) c.self.view_is
    (found_undeclared node c.args.link.0 c.told_as.result k lead (c.told_as.ensures ∙ ap (option_map (λ x. local_error c.args.id x)) c.refuses_undeclare.ensures))
