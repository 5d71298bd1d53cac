use Rattle.std.proofs.Common.{◌≡◌, Some, sym, subst, ◌∙◌}
use Rattle.zr_node_spec.specs.State.{NodeState}
use Rattle.zr_node.specs.Asked.{refuses_change}
use Rattle.zr_node.specs.Answer.{IsJudged}
use Rattle.zr_node.proofs.Early.{change_late, change_refused, judged_lacking}
use Rattle.zr_node.proofs.node.Node.judge.Goals as goal

pub returns-in-Some : goal.returns-in-Some
returns-in-Some c =
    let node : NodeState = record { links = c.self.inside.links; base = c.self.inside.base; rows = c.self.inside.local.rows; clients = c.self.inside.local.clients; known = c.self.inside.known; pending = c.self.inside.pending.rows; held = c.self.inside.pending.held; spent = c.self.inside.spent } in
    subst (λ (m : NodeState). refuses_change m c.args.asked.now ≡ Some c.in-Some.error) c.self.view_is (change_refused node c.args.asked.now c.in-Some.error (sym c.in-Some.ensures))

pub returns-in_err-asked : goal.returns-in_err-asked
returns-in_err-asked c =
    let node : NodeState = record { links = c.self.inside.links; base = c.self.inside.base; rows = c.self.inside.local.rows; clients = c.self.inside.local.clients; known = c.self.inside.known; pending = c.self.inside.pending.rows; held = c.self.inside.pending.held; spent = c.self.inside.spent } in
    subst (λ (m : NodeState). IsJudged (refuses_change m c.args.asked.now) c.from_residual.result) c.self.view_is
    (judged_lacking (refuses_change node c.args.asked.now) c.from_residual.result c.from_residual.ensures.1 (change_late node c.args.asked.now (sym c.refusal.ensures ∙ c.in_default.is)))

pub returns-in_err-local : goal.returns-in_err-local
returns-in_err-local c =
    let node : NodeState = record { links = c.self.inside.links; base = c.self.inside.base; rows = c.self.inside.local.rows; clients = c.self.inside.local.clients; known = c.self.inside.known; pending = c.self.inside.pending.rows; held = c.self.inside.pending.held; spent = c.self.inside.spent } in
    subst (λ (m : NodeState). IsJudged (refuses_change m c.args.asked.now) c.from_residual-in_err-local.result) c.self.view_is
    (judged_lacking (refuses_change node c.args.asked.now) c.from_residual-in_err-local.result c.from_residual-in_err-local.ensures.1 (change_late node c.args.asked.now (sym c.refusal.ensures ∙ c.in_default.is)))
