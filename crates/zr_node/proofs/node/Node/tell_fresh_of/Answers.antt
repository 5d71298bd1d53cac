use Rattle.std.proofs.Common.{◌≡◌, OnOk, OnErr, sym, ap, subst, ◌∙◌}
use Rattle.zr_flood.specs.Tell.{GoesBy}
use Rattle.zr_graph.specs.Base.{BaseState}
use Rattle.zr_node_spec.specs.Snapshots.{sends_snapshots}
use Rattle.zr_node_spec.specs.Event.{Tells, TellsPrefix}
use Rattle.zr_node_spec.specs.State.{NodeState, tables}
use Rattle.zr_node.proofs.node.Node.tell_fresh_of.Goals as goal

pub returns-clause-sends : goal.returns-clause-sends
returns-clause-sends c = λ base own is.
    let node : NodeState = record { links = c.self.inside.links; base = c.self.inside.base; rows = c.self.inside.local.rows; clients = c.self.inside.local.clients; known = c.self.inside.known; pending = c.self.inside.pending.rows; held = c.self.inside.pending.held; spent = c.self.inside.spent } in
    let by : GoesBy (tables node) c.as_slice-links.result.now c.in_ok-family.family = record { links_are = sym c.as_slice-links.ensures.value; base_is = sym c.in_ok-family.ensures.family } in
    let me : c.args.before.me ≡ c.in_ok-family.family.me =
    ap (λ (b : BaseState). b.me) is ∙ own ∙ sym (ap (λ (m : NodeState). m.base.me) c.self.view_is) ∙ sym (ap (λ (b : BaseState). b.me) c.in_ok-family.ensures.family) in
    subst (λ (m : NodeState). OnOk c.fresh_children-told.result (Tells (sends_snapshots (tables m) base.records) c.args.out.now.items c.fresh_children-told.new.out.items)) c.self.view_is
    (subst (λ (b : BaseState). OnOk c.fresh_children-told.result (Tells (sends_snapshots (tables node) b.records) c.args.out.now.items c.fresh_children-told.new.out.items)) is
    (c.fresh_children-told.ensures.ok (tables node) by me (sym c.logs.ensures.value) c.self.invariant.links.ascending))

pub returns-clause-prefix : goal.returns-clause-prefix
returns-clause-prefix c = λ base own is.
    let node : NodeState = record { links = c.self.inside.links; base = c.self.inside.base; rows = c.self.inside.local.rows; clients = c.self.inside.local.clients; known = c.self.inside.known; pending = c.self.inside.pending.rows; held = c.self.inside.pending.held; spent = c.self.inside.spent } in
    let by : GoesBy (tables node) c.as_slice-links.result.now c.in_ok-family.family = record { links_are = sym c.as_slice-links.ensures.value; base_is = sym c.in_ok-family.ensures.family } in
    let me : c.args.before.me ≡ c.in_ok-family.family.me =
    ap (λ (b : BaseState). b.me) is ∙ own ∙ sym (ap (λ (m : NodeState). m.base.me) c.self.view_is) ∙ sym (ap (λ (b : BaseState). b.me) c.in_ok-family.ensures.family) in
    subst (λ (m : NodeState). OnErr c.fresh_children-told.result (TellsPrefix (sends_snapshots (tables m) base.records) c.args.out.now.items c.fresh_children-told.new.out.items)) c.self.view_is
    (subst (λ (b : BaseState). OnErr c.fresh_children-told.result (TellsPrefix (sends_snapshots (tables node) b.records) c.args.out.now.items c.fresh_children-told.new.out.items)) is
    (c.fresh_children-told.ensures.err (tables node) by me (sym c.logs.ensures.value) c.self.invariant.links.ascending))
