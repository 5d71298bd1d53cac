use Rattle.std.proofs.Common.{List, refl, sym, subst}
use Rattle.zr_id.specs.declared.link.LinkNo.{LinkNo}
use Rattle.zr_msg.specs.declared.msg.Msg.{Msg}
use Rattle.zr_node_spec.specs.State.{NodeState}
use Rattle.zr_node.specs.Done.{IsDone}
use Rattle.zr_node.specs.Steps.{response_part, with_table}
use Rattle.zr_node.proofs.Done.{nothing_sent}
use Rattle.zr_node.proofs.node.Node.response.Goals as goal

pub returns-in_err-response : goal.returns-in_err-response
returns-in_err-response c =
    let now : NodeState = with_table (record { links = c.self.inside.links; base = c.self.inside.base; rows = c.self.inside.local.rows; clients = c.self.inside.local.clients; known = c.self.inside.known; pending = c.self.inside.pending.rows; held = c.self.inside.pending.held; spent = c.self.inside.spent }) c.response.new.pending in
    subst (λ (xs : List (LinkNo × Msg)). IsDone (response_part c.args.self.now c.args.link.0 c.args.number c.args.content.now) c.from_residual.result now c.args.out.now.items xs) (sym c.in_err-response.ensures.err)
    (nothing_sent (response_part c.args.self.now c.args.link.0 c.args.number c.args.content.now) c.from_residual.result now c.args.out.now.items c.from_residual.ensures.1 refl)
