use Rattle.std.proofs.Common.{refl, ap, subst, ◌∙◌}
use Rattle.zr_flood.specs.Flood.{AreOf}
use Rattle.zr_graph.specs.Base.{BaseState}
use Rattle.zr_msg.specs.Peer.{PeerState}
use Rattle.zr_msg.specs.declared.peer.Role.TheVariants.{Router}
use Rattle.zr_node_spec.specs.Queries.{sends_ends}
use Rattle.zr_node_spec.specs.State.{NodeState}
use Rattle.zr_node_spec.specs.Table.{parted, sends_parted, with_base}
use Rattle.zr_node.specs.Done.{IsLeft, IsDone}
use Rattle.zr_node.specs.Steps.{ended_on, parting_part, with_table}
use Rattle.zr_node.proofs.Answers.{change_failed}
use Rattle.zr_node.proofs.Done.{lacked}
use Rattle.zr_node.proofs.Early.{parting_late}
use Rattle.zr_node.proofs.Requests.{table_is}
use Rattle.zr_node.proofs.Retold.{told_both, prefix_first, prefix_second}
use Rattle.zr_node_spec.specs.Tables.{TableState}
use Rattle.zr_node.proofs.Remembering.{whole_anew}
use Rattle.zr_node.proofs.node.Node.part.Goals as goal

pub returns-in_err-part : goal.returns-in_err-part
returns-in_err-part c =
    let node : NodeState = record { links = c.self.inside.links; base = c.self.inside.base; rows = c.self.inside.local.rows; clients = c.self.inside.local.clients; known = c.self.inside.known; pending = c.self.inside.pending.rows; held = c.self.inside.pending.held; spent = c.self.inside.spent } in
    let now : NodeState = with_base node c.part.new.base in
    subst (λ (m : NodeState). IsDone (parting_part m c.args.link.0 c.args.peer.now) c.from_residual.result now c.args.out.now.items c.args.out.now.items) c.self.view_is
    (change_failed (parting_part node c.args.link.0 c.args.peer.now) c.in_err-part.field-0.0 c.from_residual.result now c.args.out.now.items c.from_residual.ensures.1 c.in_err-part.ensures.worn
    (ap (λ (b : BaseState). with_base node b) c.in_err-part.ensures.unchanged))

pub returns-in_err-flood_down : goal.returns-in_err-flood_down
returns-in_err-flood_down c =
    let node : NodeState = record { links = c.self.inside.links; base = c.self.inside.base; rows = c.self.inside.local.rows; clients = c.self.inside.local.clients; known = c.self.inside.known; pending = c.self.inside.pending.rows; held = c.self.inside.pending.held; spent = c.self.inside.spent } in
    let now : NodeState = with_table (with_base node c.part.new.base) c.ends_of.new.pending in
    let of : AreOf node c.as_slice.result.now = record { right = c.self.invariant.links; same = c.as_slice.ensures.value } in
    subst (λ (m : NodeState). IsDone (parting_part m c.args.link.0 c.args.peer.now) c.from_residual-in_err-flood_down.result now c.args.out.now.items c.flood_down.new.out.items) c.self.view_is
    (lacked (parting_part node c.args.link.0 c.args.peer.now) c.from_residual-in_err-flood_down.result now c.args.out.now.items c.flood_down.new.out.items c.from_residual-in_err-flood_down.ensures.1 (parting_late node.base Router)
    (prefix_second (sends_ends node.pending node.held c.args.link.0) (sends_parted node c.args.link.0 c.args.peer.now Router) (parting_part node c.args.link.0 c.args.peer.now).sends c.args.out.now.items (λ to. refl) c.ends_of.new.out.items c.flood_down.new.out.items
    c.in_ok-ends_of.ensures.ok (c.in_err-flood_down.ensures.err node c.args.peer.now of (c.in_ok-part.ensures.ok ∙ ap (λ (p : PeerState). parted c.self.inside.base p.id) c.peer.view_is))))

pub returns-in_err-ends_of : goal.returns-in_err-ends_of
returns-in_err-ends_of c =
    let node : NodeState = record { links = c.self.inside.links; base = c.self.inside.base; rows = c.self.inside.local.rows; clients = c.self.inside.local.clients; known = c.self.inside.known; pending = c.self.inside.pending.rows; held = c.self.inside.pending.held; spent = c.self.inside.spent } in
    let now : NodeState = with_table (with_base node c.part.new.base) c.ends_of.new.pending in
    subst (λ (m : NodeState). IsDone (parting_part m c.args.link.0 c.args.peer.now) c.from_residual-in_err-ends_of.result now c.args.out.now.items c.ends_of.new.out.items) c.self.view_is
    (lacked (parting_part node c.args.link.0 c.args.peer.now) c.from_residual-in_err-ends_of.result now c.args.out.now.items c.ends_of.new.out.items c.from_residual-in_err-ends_of.ensures.1 (parting_late node.base Router)
    (prefix_first (sends_ends node.pending node.held c.args.link.0) (sends_parted node c.args.link.0 c.args.peer.now Router) (parting_part node c.args.link.0 c.args.peer.now).sends c.args.out.now.items (λ to. refl) c.ends_of.new.out.items
    c.in_err-ends_of.ensures.err))

pub returns : goal.returns
returns c =
    let node : NodeState = record { links = c.self.inside.links; base = c.self.inside.base; rows = c.self.inside.local.rows; clients = c.self.inside.local.clients; known = c.self.inside.known; pending = c.self.inside.pending.rows; held = c.self.inside.pending.held; spent = c.self.inside.spent } in
    let now : NodeState = with_table (with_base node c.part.new.base) c.ends_of.new.pending in
    let of : AreOf node c.as_slice.result.now = record { right = c.self.invariant.links; same = c.as_slice.ensures.value } in
    subst (λ (m : NodeState). IsLeft (parting_part m c.args.link.0 c.args.peer.now) now c.args.out.now.items c.flood_down.new.out.items) c.self.view_is
    (record {
      allowed = c.in_ok-part.ensures.worn;
      state =
          ap (λ (b : BaseState). with_table (with_base node b) c.ends_of.new.pending) (c.in_ok-part.ensures.ok ∙ ap (λ (p : PeerState). parted c.self.inside.base p.id) c.peer.view_is)
          ∙ table_is (with_base node (parted node.base c.args.peer.now.id)) c.ends_of.new.pending (ended_on node c.args.link.0) c.in_ok-ends_of.ensures.rows c.in_ok-ends_of.ensures.held;
      sends =
          told_both (sends_ends node.pending node.held c.args.link.0) (sends_parted node c.args.link.0 c.args.peer.now Router) (parting_part node c.args.link.0 c.args.peer.now).sends c.args.out.now.items (λ to. refl) c.ends_of.new.out.items c.flood_down.new.out.items
          c.in_ok-ends_of.ensures.ok (c.in_ok-flood_down.ensures.ok node c.args.peer.now of (c.in_ok-part.ensures.ok ∙ ap (λ (p : PeerState). parted c.self.inside.base p.id) c.peer.view_is));
    })

pub invariant_of-self-in_err-ends_of : goal.invariant_of-self-in_err-ends_of
invariant_of-self-in_err-ends_of c =
    let before : TableState = record { links = c.self.inside.links; base = c.self.inside.base; rows = c.self.inside.local.rows; clients = c.self.inside.local.clients; known = c.self.inside.known } in
    whole_anew before c.part.new.base c.forget.new.family c.forget.new.trees c.self.inside.holders c.forget.new.routes (ap (λ (b : BaseState). b.me) c.in_ok-part.ensures.ok) c.self.invariant.links c.self.invariant.own c.forget.ensures.family c.forget.ensures.trees c.self.invariant.holders c.forget.ensures.routes

pub invariant_of-self-in_err-flood_down : goal.invariant_of-self-in_err-flood_down
invariant_of-self-in_err-flood_down c =
    let before : TableState = record { links = c.self.inside.links; base = c.self.inside.base; rows = c.self.inside.local.rows; clients = c.self.inside.local.clients; known = c.self.inside.known } in
    whole_anew before c.part.new.base c.forget.new.family c.forget.new.trees c.self.inside.holders c.forget.new.routes (ap (λ (b : BaseState). b.me) c.in_ok-part.ensures.ok) c.self.invariant.links c.self.invariant.own c.forget.ensures.family c.forget.ensures.trees c.self.invariant.holders c.forget.ensures.routes

pub invariant_of-self-2 : goal.invariant_of-self-2
invariant_of-self-2 c =
    let before : TableState = record { links = c.self.inside.links; base = c.self.inside.base; rows = c.self.inside.local.rows; clients = c.self.inside.local.clients; known = c.self.inside.known } in
    whole_anew before c.part.new.base c.forget.new.family c.forget.new.trees c.self.inside.holders c.forget.new.routes (ap (λ (b : BaseState). b.me) c.in_ok-part.ensures.ok) c.self.invariant.links c.self.invariant.own c.forget.ensures.family c.forget.ensures.trees c.self.invariant.holders c.forget.ensures.routes
