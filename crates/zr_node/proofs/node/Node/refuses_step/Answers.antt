use Rattle.std.proofs.Common.{◌≡◌, true, option_map, sym, ap, subst, ◌∙◌}
use Rattle.zr_log.specs.Known.{refuses_step}
use Rattle.zr_log.specs.Log.{Change}
use Rattle.zr_node_spec.specs.State.{NodeState}
use Rattle.zr_node_spec.specs.Table.{known_error, refuses_step_from}
use Rattle.zr_node_spec.specs.Tables.{leads_to_router}
use Rattle.zr_node.specs.Answer.{IsFound}
use Rattle.zr_node.proofs.Early.{found_nothing, found_step}
use Rattle.zr_node.proofs.node.Node.refuses_step.Goals as goal

pub returns-then-not-leads_to_router : goal.returns-then-not-leads_to_router
returns-then-not-leads_to_router c =
    let n : NodeState = c.args.self.now in
    let change : Change = record { added = c.args.added; decl = c.args.decl.now } in
    found_nothing (leads_to_router n.links c.args.link.0) (option_map (λ x. known_error x) (refuses_step n.known c.args.source c.args.number change)) (sym c.leads_to_router.ensures ∙ c.if-not-leads_to_router.true)

pub returns : goal.returns
returns c =
    let node : NodeState = record { links = c.self.inside.links; base = c.self.inside.base; rows = c.self.inside.local.rows; clients = c.self.inside.local.clients; known = c.self.inside.known; pending = c.self.inside.pending.rows; held = c.self.inside.pending.held; spent = c.self.inside.spent } in
    let change : Change = record { added = c.args.added; decl = c.args.decl.now } in
    let lead : leads_to_router node.links c.args.link.0 ≡ true = subst (λ (m : NodeState). leads_to_router m.links c.args.link.0 ≡ true) (sym c.self.view_is) (sym c.leads_to_router.ensures ∙ c.if-not-leads_to_router.false) in
    subst (λ (m : NodeState). IsFound (refuses_step_from m c.args.link.0 c.args.source c.args.number change) c.known_as.result) c.self.view_is
    (found_step node c.args.link.0 c.known_as.result c.args.source c.args.number change lead (c.known_as.ensures ∙ ap (option_map (λ x. known_error x)) c.refuses_step.ensures))
