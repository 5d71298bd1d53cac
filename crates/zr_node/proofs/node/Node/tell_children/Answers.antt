use Rattle.std.proofs.Common.{◌≡◌, OnOk, OnErr, sym, subst}
use Rattle.zr_flood.specs.Tell.{GoesBy}
use Rattle.zr_log.specs.Known.{position}
use Rattle.zr_node_spec.specs.Changes.{changes_of, sends_changes}
use Rattle.zr_node_spec.specs.Event.{Tells, TellsPrefix}
use Rattle.zr_node_spec.specs.State.{NodeState, tables}
use Rattle.zr_node.proofs.node.Node.tell_children.Goals as goal

pub returns-clause-sends : goal.returns-clause-sends
returns-clause-sends c =
    let node : NodeState = record { links = c.self.inside.links; base = c.self.inside.base; rows = c.self.inside.local.rows; clients = c.self.inside.local.clients; known = c.self.inside.known; pending = c.self.inside.pending.rows; held = c.self.inside.pending.held; spent = c.self.inside.spent } in
    let same : GoesBy (tables node) c.as_slice-links.result.now c.in_ok-family.family = record { links_are = sym c.as_slice-links.ensures.value; base_is = sym c.in_ok-family.ensures.family } in
    let number : c.args.number ≡ position node.known node.base.me = subst (λ (m : NodeState). c.args.number ≡ position m.known m.base.me) (sym c.self.view_is) c.requires.number in
    subst (λ (m : NodeState). OnOk c.tell_changes-told.result (Tells (sends_changes (tables m) (changes_of c.args.changes.now.gone.items c.args.changes.now.came.items)) c.args.out.now.items c.tell_changes-told.new.out.items)) c.self.view_is
    (c.tell_changes-told.ensures.ok (tables node) same c.self.invariant.links.ascending number)

pub returns-clause-prefix : goal.returns-clause-prefix
returns-clause-prefix c =
    let node : NodeState = record { links = c.self.inside.links; base = c.self.inside.base; rows = c.self.inside.local.rows; clients = c.self.inside.local.clients; known = c.self.inside.known; pending = c.self.inside.pending.rows; held = c.self.inside.pending.held; spent = c.self.inside.spent } in
    let same : GoesBy (tables node) c.as_slice-links.result.now c.in_ok-family.family = record { links_are = sym c.as_slice-links.ensures.value; base_is = sym c.in_ok-family.ensures.family } in
    let number : c.args.number ≡ position node.known node.base.me = subst (λ (m : NodeState). c.args.number ≡ position m.known m.base.me) (sym c.self.view_is) c.requires.number in
    subst (λ (m : NodeState). OnErr c.tell_changes-told.result (TellsPrefix (sends_changes (tables m) (changes_of c.args.changes.now.gone.items c.args.changes.now.came.items)) c.args.out.now.items c.tell_changes-told.new.out.items)) c.self.view_is
    (c.tell_changes-told.ensures.err (tables node) same c.self.invariant.links.ascending number)
