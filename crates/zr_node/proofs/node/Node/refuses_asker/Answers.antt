use Rattle.std.proofs.Common.{◌≡◌, Bool, sym, ap, subst, ◌∙◌}
use Rattle.zr_node_spec.specs.Queries.{asker}
use Rattle.zr_node_spec.specs.State.{NodeState}
use Rattle.zr_node_spec.specs.Table.{refuses_request}
use Rattle.zr_node_spec.specs.Tables.{leads_to_client}
use Rattle.zr_node.specs.Answer.{IsFound}
use Rattle.zr_node.specs.Requests.{refuses_asker}
use Rattle.zr_node.proofs.Early.{found_asker}
use Rattle.zr_node.proofs.node.Node.refuses_asker.Goals as goal

pub returns : goal.returns
returns c = λ links.
    let node : NodeState = record { links = c.self.inside.links; base = c.self.inside.base; rows = c.self.inside.local.rows; clients = c.self.inside.local.clients; known = c.self.inside.known; pending = c.self.inside.pending.rows; held = c.self.inside.pending.held; spent = c.self.inside.spent } in
    let client : c.leads_to_client.result ≡ leads_to_client node.links c.args.link.0 = subst (λ (m : NodeState). c.leads_to_client.result ≡ leads_to_client m.links c.args.link.0) (sym c.self.view_is) c.leads_to_client.ensures in
    subst (λ (m : NodeState). IsFound (refuses_request m c.args.link.0 c.args.number links) c.refusal.result) c.self.view_is
    (found_asker node c.args.link.0 c.refusal.result c.args.number links (c.refusal.ensures ∙ ap (λ (b : Bool). refuses_asker node.pending (asker c.args.link.0 c.args.number) b) client))
