use Rattle.std.proofs.Common.{◌≡◌, ℕ, List, None, true, Err, refl, sym, ap, subst, ◌∙◌, rules, arith}
use Rattle.std.proofs.lemmas.Grind.{common_steps}
use Rattle.zr_log.specs.Known.{KnownState, IsRefusedAs, after_snap, is_newer, refuses_snap}
use Rattle.zr_log.specs.declared.known.Taken.{Taken}
use Rattle.zr_msg.specs.declared.decl.Decl.{Decl}
use Rattle.zr_msg.specs.declared.msg.Msg.TheVariants.{Snap}
use Rattle.zr_node_spec.specs.Tables.{TableState, HaveSameTrees, leads_to_router}
use Rattle.zr_node_spec.specs.State.{NodeState, tables}
use Rattle.zr_push_sought.specs.Holders.{HoldJust}
use Rattle.zr_push_sought.specs.Pairs.{all_declared}
use Rattle.zr_node_spec.specs.Table.{with_known}
use Rattle.zr_node.specs.Done.{IsLeft, IsDone}
use Rattle.zr_node.specs.Steps.{snap_part}
use Rattle.zr_node.proofs.Done.{lacked}
use Rattle.zr_node.proofs.Early.{snap_late}
use Rattle.zr_node.proofs.News.{new_is, news_failed, news_taken, refused_again}
use Rattle.zr_node.proofs.node.Node.snap.Goals as goal

pub returns-in_err-pass_on-in-New : goal.returns-in_err-pass_on-in-New
returns-in_err-pass_on-in-New c =
    let node : NodeState = record { links = c.self.inside.links; base = c.self.inside.base; rows = c.self.inside.local.rows; clients = c.self.inside.local.clients; known = c.self.inside.known; pending = c.self.inside.pending.rows; held = c.self.inside.pending.held; spent = c.self.inside.spent } in
    let router : leads_to_router node.links c.args.link.0 ≡ true = subst (λ (m : NodeState). leads_to_router m.links c.args.link.0 ≡ true) (sym c.self.view_is) (sym c.leads_to_router.ensures ∙ c.if-not-leads_to_router.false) in
    let next : is_newer node.known c.args.source c.args.number ≡ true = new_is _ (sym c.in-New.is ∙ c.in_ok-snap.ensures.answer) in
    let same : HaveSameTrees (tables node) (tables (with_known node c.snap.new.known)) = record { links = refl; base = refl } in
    subst (λ (m : NodeState). IsDone (snap_part m c.args.link.0 c.args.source c.args.number c.args.decls.now) c.from_residual-in_err-pass_on-in-New.result c.pass_on.new.self c.args.out.now.items c.pass_on.new.out.items) c.self.view_is
    (lacked (snap_part node c.args.link.0 c.args.source c.args.number c.args.decls.now) c.from_residual-in_err-pass_on-in-New.result c.pass_on.new.self c.args.out.now.items c.pass_on.new.out.items c.from_residual-in_err-pass_on-in-New.ensures.1 (snap_late node c.args.link.0 c.args.source c.args.number c.args.decls.now)
    (c.in_err-pass_on-in-New.ensures.snap_prefix (tables node) c.args.link.0 c.args.number c.args.decls.now same c.self.invariant.links.ascending router next c.requires))

pub returns-in_ok-pass_on-in-New : goal.returns-in_ok-pass_on-in-New
returns-in_ok-pass_on-in-New c =
    let node : NodeState = record { links = c.self.inside.links; base = c.self.inside.base; rows = c.self.inside.local.rows; clients = c.self.inside.local.clients; known = c.self.inside.known; pending = c.self.inside.pending.rows; held = c.self.inside.pending.held; spent = c.self.inside.spent } in
    let router : leads_to_router node.links c.args.link.0 ≡ true = subst (λ (m : NodeState). leads_to_router m.links c.args.link.0 ≡ true) (sym c.self.view_is) (sym c.leads_to_router.ensures ∙ c.if-not-leads_to_router.false) in
    let next : is_newer node.known c.args.source c.args.number ≡ true = new_is _ (sym c.in-New.is ∙ c.in_ok-snap.ensures.answer) in
    let same : HaveSameTrees (tables node) (tables (with_known node c.snap.new.known)) = record { links = refl; base = refl } in
    subst (λ (m : NodeState). IsLeft (snap_part m c.args.link.0 c.args.source c.args.number c.args.decls.now) c.pass_on.new.self c.args.out.now.items c.pass_on.new.out.items) c.self.view_is
    (news_taken node c.args.link.0 c.args.source (after_snap node.known c.args.source c.args.number c.args.decls.now) (is_newer node.known c.args.source c.args.number) (Snap c.args.source c.args.number c.args.decls.now) (refuses_snap node.known c.args.source c.args.number c.args.decls.now)
    router c.pass_on.new.self c.args.out.now.items c.pass_on.new.out.items (subst (λ (ds : List Decl). refuses_snap node.known c.args.source c.args.number ds ≡ None) c.as_slice.ensures c.in_ok-snap.ensures.refused)
    (c.pass_on.ensures.same ∙ ap (λ (k : KnownState). with_known node k) (subst (λ (ds : List Decl). c.snap.new.known ≡ after_snap node.known c.args.source c.args.number ds) c.as_slice.ensures c.in_ok-snap.ensures.known))
    (c.in_ok-pass_on-in-New.ensures.snap (tables node) c.args.link.0 c.args.number c.args.decls.now same c.self.invariant.links.ascending router next c.requires))

pub invariant_of-self : goal.invariant_of-self
invariant_of-self c =
    let now : TableState = record { links = c.self.inside.links; base = c.self.inside.base; rows = c.self.inside.local.rows; clients = c.self.inside.local.clients; known = c.snap.new.known } in
    let own : c.snap.new.known.me ≡ c.self.inside.base.me = first_of (search rules, grind (arith, common_steps)) in
    record {
      links = c.self.invariant.links;
      own = own;
      family = c.self.invariant.family;
      trees = c.self.invariant.trees;
      holders =
          subst (λ (me : List ℕ). HoldJust (all_declared c.self.inside.local.rows me c.self.inside.known.logs) c.self.inside.holders → HoldJust (all_declared c.self.inside.local.rows me c.snap.new.known.logs) c.snap.new.holders) c.me-me.ensures
          (c.snap.ensures.holders c.self.inside.local.rows) c.self.invariant.holders;
      routes = c.forget.ensures now;
    }

pub invariant_of-self-in-Old : goal.invariant_of-self-in-Old
invariant_of-self-in-Old c =
    let now : TableState = record { links = c.self.inside.links; base = c.self.inside.base; rows = c.self.inside.local.rows; clients = c.self.inside.local.clients; known = c.snap.new.known } in
    let own : c.snap.new.known.me ≡ c.self.inside.base.me = first_of (search rules, grind (arith, common_steps)) in
    record {
      links = c.self.invariant.links;
      own = own;
      family = c.self.invariant.family;
      trees = c.self.invariant.trees;
      holders =
          subst (λ (me : List ℕ). HoldJust (all_declared c.self.inside.local.rows me c.self.inside.known.logs) c.self.inside.holders → HoldJust (all_declared c.self.inside.local.rows me c.snap.new.known.logs) c.snap.new.holders) c.me-me.ensures
          (c.snap.ensures.holders c.self.inside.local.rows) c.self.invariant.holders;
      routes = c.forget.ensures now;
    }

pub invariant_of-self-in-New : goal.invariant_of-self-in-New
invariant_of-self-in-New c =
    let now : TableState = record { links = c.self.inside.links; base = c.self.inside.base; rows = c.self.inside.local.rows; clients = c.self.inside.local.clients; known = c.snap.new.known } in
    let own : c.snap.new.known.me ≡ c.self.inside.base.me = first_of (search rules, grind (arith, common_steps)) in
    record {
      links = c.self.invariant.links;
      own = own;
      family = c.self.invariant.family;
      trees = c.self.invariant.trees;
      holders =
          subst (λ (me : List ℕ). HoldJust (all_declared c.self.inside.local.rows me c.self.inside.known.logs) c.self.inside.holders → HoldJust (all_declared c.self.inside.local.rows me c.snap.new.known.logs) c.snap.new.holders) c.me-me.ensures
          (c.snap.ensures.holders c.self.inside.local.rows) c.self.invariant.holders;
      routes = c.forget.ensures now;
    }

pub returns-in_err-snap : goal.returns-in_err-snap
returns-in_err-snap c =
    let node : NodeState = record { links = c.self.inside.links; base = c.self.inside.base; rows = c.self.inside.local.rows; clients = c.self.inside.local.clients; known = c.self.inside.known; pending = c.self.inside.pending.rows; held = c.self.inside.pending.held; spent = c.self.inside.spent } in
    let ds : List Decl = c.args.decls.now in
    let router : leads_to_router node.links c.args.link.0 ≡ true = subst (λ (m : NodeState). leads_to_router m.links c.args.link.0 ≡ true) (sym c.self.view_is) (sym c.leads_to_router.ensures ∙ c.if-not-leads_to_router.false) in
    subst (λ (m : NodeState). IsDone (snap_part m c.args.link.0 c.args.source c.args.number ds) c.from_residual.result (with_known node c.snap.new.known) c.args.out.now.items c.args.out.now.items) c.self.view_is
    (news_failed node c.args.link.0 c.args.source (after_snap node.known c.args.source c.args.number ds) (is_newer node.known c.args.source c.args.number) (Snap c.args.source c.args.number ds) (refuses_snap node.known c.args.source c.args.number ds)
    router c.in_err-snap.field-0.0 c.from_residual.result (with_known node c.snap.new.known) c.args.out.now.items c.from_residual.ensures.1
    (refused_again (refuses_snap node.known c.args.source c.args.number ds) c.in_err-snap.field-0.0 (subst (λ (xs : List Decl). IsRefusedAs {X = Taken} (refuses_snap node.known c.args.source c.args.number xs) (Err c.in_err-snap.field-0.0)) c.as_slice.ensures c.in_err-snap.ensures.refused))
    (λ e. snap_late node c.args.link.0 c.args.source c.args.number ds) (ap (λ (k : KnownState). with_known node k) c.in_err-snap.ensures.unchanged))
