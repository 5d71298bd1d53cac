use Rattle.std.proofs.Common.{refl, subst}
use Rattle.zr_node_spec.specs.State.{NodeState}
use Rattle.zr_node.specs.Done.{IsLeft, IsDone}
use Rattle.zr_node.specs.Steps.{after_ending, final_part, with_table}
use Rattle.zr_node.proofs.Done.{lacked}
use Rattle.zr_node.proofs.Requests.{table_is}
use Rattle.zr_node.proofs.node.Node.end.Goals as goal

pub returns-in_err-final_of : goal.returns-in_err-final_of
returns-in_err-final_of c =
    let node : NodeState = record { links = c.self.inside.links; base = c.self.inside.base; rows = c.self.inside.local.rows; clients = c.self.inside.local.clients; known = c.self.inside.known; pending = c.self.inside.pending.rows; held = c.self.inside.pending.held; spent = c.self.inside.spent } in
    subst (λ (m : NodeState). IsDone (final_part m c.args.link.0 c.args.number c.args.extras.now) c.from_residual.result (with_table node c.final_of.new.pending) c.args.out.now.items c.final_of.new.out.items) c.self.view_is
    (lacked (final_part node c.args.link.0 c.args.number c.args.extras.now) c.from_residual.result (with_table node c.final_of.new.pending) c.args.out.now.items c.final_of.new.out.items c.from_residual.ensures.1 refl
    c.in_err-final_of.ensures.err)

pub returns : goal.returns
returns c =
    let node : NodeState = record { links = c.self.inside.links; base = c.self.inside.base; rows = c.self.inside.local.rows; clients = c.self.inside.local.clients; known = c.self.inside.known; pending = c.self.inside.pending.rows; held = c.self.inside.pending.held; spent = c.self.inside.spent } in
    subst (λ (m : NodeState). IsLeft (final_part m c.args.link.0 c.args.number c.args.extras.now) (with_table node c.final_of.new.pending) c.args.out.now.items c.final_of.new.out.items) c.self.view_is
    (record { allowed = refl; state = table_is node c.final_of.new.pending (after_ending node c.args.link.0 c.args.number) c.in_ok-final_of.ensures.rows c.in_ok-final_of.ensures.held; sends = c.in_ok-final_of.ensures.ok })
