use Rattle.std.proofs.Common.{ap, subst, ◌∙◌}
use Rattle.zr_flood.specs.Flood.{AreOf}
use Rattle.zr_id.specs.Record.{LinkedState}
use Rattle.zr_graph.specs.Base.{BaseState}
use Rattle.zr_node_spec.specs.State.{NodeState}
use Rattle.zr_node_spec.specs.Table.{joined, with_base}
use Rattle.zr_node.specs.Done.{IsLeft, IsDone}
use Rattle.zr_node.specs.Steps.{join_part}
use Rattle.zr_msg.specs.declared.peer.Role.TheVariants.{Router}
use Rattle.zr_node.proofs.Answers.{change_failed}
use Rattle.zr_node.proofs.Done.{lacked}
use Rattle.zr_node.proofs.Early.{up_late}
use Rattle.zr_node_spec.specs.Tables.{TableState}
use Rattle.zr_node.proofs.Remembering.{whole_anew}
use Rattle.zr_node.proofs.node.Node.join.Goals as goal

pub returns-in_err-join : goal.returns-in_err-join
returns-in_err-join c =
    let node : NodeState = record { links = c.self.inside.links; base = c.self.inside.base; rows = c.self.inside.local.rows; clients = c.self.inside.local.clients; known = c.self.inside.known; pending = c.self.inside.pending.rows; held = c.self.inside.pending.held; spent = c.self.inside.spent } in
    let now : NodeState = with_base node c.join.new.base in
    subst (λ (m : NodeState). IsDone (join_part m c.args.link c.args.peer.now) c.from_residual.result now c.args.out.now.items c.args.out.now.items) c.self.view_is
    (change_failed (join_part node c.args.link c.args.peer.now) c.in_err-join.field-0.0 c.from_residual.result now c.args.out.now.items c.from_residual.ensures.1 c.in_err-join.ensures.worn
    (ap (λ (b : BaseState). with_base node b) c.in_err-join.ensures.unchanged))

pub returns-in_err-flood_up : goal.returns-in_err-flood_up
returns-in_err-flood_up c =
    let node : NodeState = record { links = c.self.inside.links; base = c.self.inside.base; rows = c.self.inside.local.rows; clients = c.self.inside.local.clients; known = c.self.inside.known; pending = c.self.inside.pending.rows; held = c.self.inside.pending.held; spent = c.self.inside.spent } in
    let now : NodeState = with_base node c.join.new.base in
    let of : AreOf node c.as_slice.result.now = record { right = c.self.invariant.links; same = c.as_slice.ensures.value } in
    subst (λ (m : NodeState). IsDone (join_part m c.args.link c.args.peer.now) c.from_residual-in_err-flood_up.result now c.args.out.now.items c.flood_up.new.out.items) c.self.view_is
    (lacked (join_part node c.args.link c.args.peer.now) c.from_residual-in_err-flood_up.result now c.args.out.now.items c.flood_up.new.out.items c.from_residual-in_err-flood_up.ensures.1 (up_late node.base Router)
    (c.in_err-flood_up.ensures.err node c.args.peer.now of (c.in_ok-join.ensures.ok ∙ ap (λ (l : LinkedState). joined c.self.inside.base l) c.own_link.ensures)))

pub returns : goal.returns
returns c =
    let node : NodeState = record { links = c.self.inside.links; base = c.self.inside.base; rows = c.self.inside.local.rows; clients = c.self.inside.local.clients; known = c.self.inside.known; pending = c.self.inside.pending.rows; held = c.self.inside.pending.held; spent = c.self.inside.spent } in
    let now : NodeState = with_base node c.join.new.base in
    let of : AreOf node c.as_slice.result.now = record { right = c.self.invariant.links; same = c.as_slice.ensures.value } in
    subst (λ (m : NodeState). IsLeft (join_part m c.args.link c.args.peer.now) now c.args.out.now.items c.flood_up.new.out.items) c.self.view_is
    (record {
      allowed = c.in_ok-join.ensures.worn;
      state = ap (λ (b : BaseState). with_base node b) (c.in_ok-join.ensures.ok ∙ ap (λ (l : LinkedState). joined c.self.inside.base l) c.own_link.ensures);
      sends = c.in_ok-flood_up.ensures.ok node c.args.peer.now of (c.in_ok-join.ensures.ok ∙ ap (λ (l : LinkedState). joined c.self.inside.base l) c.own_link.ensures);
    })

pub invariant_of-self-in_err-flood_up : goal.invariant_of-self-in_err-flood_up
invariant_of-self-in_err-flood_up c =
    let before : TableState = record { links = c.self.inside.links; base = c.self.inside.base; rows = c.self.inside.local.rows; clients = c.self.inside.local.clients; known = c.self.inside.known } in
    whole_anew before c.join.new.base c.forget.new.family c.forget.new.trees c.self.inside.holders c.forget.new.routes (ap (λ (b : BaseState). b.me) c.in_ok-join.ensures.ok) c.self.invariant.links c.self.invariant.own c.forget.ensures.family c.forget.ensures.trees c.self.invariant.holders c.forget.ensures.routes

pub invariant_of-self-2 : goal.invariant_of-self-2
invariant_of-self-2 c =
    let before : TableState = record { links = c.self.inside.links; base = c.self.inside.base; rows = c.self.inside.local.rows; clients = c.self.inside.local.clients; known = c.self.inside.known } in
    whole_anew before c.join.new.base c.forget.new.family c.forget.new.trees c.self.inside.holders c.forget.new.routes (ap (λ (b : BaseState). b.me) c.in_ok-join.ensures.ok) c.self.invariant.links c.self.invariant.own c.forget.ensures.family c.forget.ensures.trees c.self.invariant.holders c.forget.ensures.routes
