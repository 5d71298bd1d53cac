use Rattle.std.proofs.Common.{◌≡◌, Bool, true, None, option_map, sym, ap, subst, ◌∙◌}
use Rattle.zr_local.specs.State.{refuses_interest}
use Rattle.zr_node_spec.specs.Queries.{link_no}
use Rattle.zr_node_spec.specs.State.{NodeState, local_state}
use Rattle.zr_node_spec.specs.Table.{live, local_error, refuses_noted}
use Rattle.zr_node_spec.specs.Tables.{leads_to_client}
use Rattle.zr_node.specs.Answer.{IsFound}
use Rattle.zr_node.proofs.Early.{found_no_interest, found_nothing, found_noted}
use Rattle.zr_node.proofs.node.Node.refuses_noted.Goals as goal

pub returns-then-not-future : goal.returns-then-not-future
returns-then-not-future c = λ i same.
    subst (λ (b : Bool). IsFound (refuses_noted c.args.self.now c.args.link.0 c.args.id (live b i)) None) (sym c.if-not-future.true) (found_no_interest c.args.self.now c.args.link.0 c.args.id)

pub returns-then-not-leads_to_client : goal.returns-then-not-leads_to_client
returns-then-not-leads_to_client c = λ i same.
    let n : NodeState = c.args.self.now in
    found_nothing (leads_to_client n.links c.args.link.0) (option_map (λ x. local_error c.args.id x) (refuses_interest (local_state n) (link_no c.args.link.0) c.args.id (live c.args.future i)))
    (sym c.leads_to_client.ensures ∙ c.if-not-leads_to_client.true)

pub returns : goal.returns
returns c = λ i same.
    let node : NodeState = record { links = c.self.inside.links; base = c.self.inside.base; rows = c.self.inside.local.rows; clients = c.self.inside.local.clients; known = c.self.inside.known; pending = c.self.inside.pending.rows; held = c.self.inside.pending.held; spent = c.self.inside.spent } in
    let lead : leads_to_client node.links c.args.link.0 ≡ true = subst (λ (m : NodeState). leads_to_client m.links c.args.link.0 ≡ true) (sym c.self.view_is) (sym c.leads_to_client.ensures ∙ c.if-not-leads_to_client.false) in
    subst (λ (b : Bool). IsFound (refuses_noted c.args.self.now c.args.link.0 c.args.id (live b i)) c.told_as.result) (sym c.if-not-future.false)
    (subst (λ (m : NodeState). IsFound (refuses_noted m c.args.link.0 c.args.id (live true i)) c.told_as.result) c.self.view_is
    (found_noted node c.args.link.0 c.told_as.result c.args.id (live true i) lead (c.told_as.ensures ∙ ap (option_map (λ x. local_error c.args.id x)) (c.refuses_interest.ensures i same))))
