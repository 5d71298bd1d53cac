use Rattle.std.proofs.Common.{◌≡◌, List, ℕ, true, Err, refl, sym, ap, subst, ◌∙◌, rules, arith}
use Rattle.std.proofs.lemmas.Grind.{common_steps}
use Rattle.zr_log.specs.Known.{KnownState, after_step, is_next, refusal, refuses_step}
use Rattle.zr_log.specs.Log.{Change}
use Rattle.zr_log.specs.declared.error.KnownError.{KnownError}
use Rattle.zr_log.specs.declared.known.Taken.{Taken}
use Rattle.zr_msg.specs.declared.msg.Msg.TheVariants.{Step}
use Rattle.zr_node_spec.specs.Tables.{TableState, HaveSameTrees, leads_to_router}
use Rattle.zr_node_spec.specs.State.{NodeState, tables}
use Rattle.zr_push_sought.specs.Holders.{HoldJust}
use Rattle.zr_push_sought.specs.Pairs.{all_declared}
use Rattle.zr_node_spec.specs.Table.{with_known}
use Rattle.zr_node.specs.Done.{IsLeft, IsDone}
use Rattle.zr_node.specs.Steps.{step_part}
use Rattle.zr_node.proofs.Done.{lacked}
use Rattle.zr_node.proofs.Early.{step_late}
use Rattle.zr_node.proofs.News.{new_is, news_failed, news_taken, refused_as}
use Rattle.zr_node.proofs.node.Node.step.Goals as goal

pub returns-in_err-pass_on-in-New : goal.returns-in_err-pass_on-in-New
returns-in_err-pass_on-in-New c =
    let node : NodeState = record { links = c.self.inside.links; base = c.self.inside.base; rows = c.self.inside.local.rows; clients = c.self.inside.local.clients; known = c.self.inside.known; pending = c.self.inside.pending.rows; held = c.self.inside.pending.held; spent = c.self.inside.spent } in
    let router : leads_to_router node.links c.args.link.0 ≡ true = subst (λ (m : NodeState). leads_to_router m.links c.args.link.0 ≡ true) (sym c.self.view_is) (sym c.leads_to_router.ensures ∙ c.if-not-leads_to_router.false) in
    let next : is_next node.known c.args.source c.args.number ≡ true = new_is _ (sym c.in-New.is ∙ c.in_ok-step.ensures.answer) in
    let same : HaveSameTrees (tables node) (tables (with_known node c.step.new.known)) = record { links = refl; base = refl } in
    subst (λ (m : NodeState). IsDone (step_part m c.args.link.0 c.args.source c.args.number (record { added = c.args.added; decl = c.args.decl.now })) c.from_residual-in_err-pass_on-in-New.result c.pass_on.new.self c.args.out.now.items c.pass_on.new.out.items) c.self.view_is
    (lacked (step_part node c.args.link.0 c.args.source c.args.number (record { added = c.args.added; decl = c.args.decl.now })) c.from_residual-in_err-pass_on-in-New.result c.pass_on.new.self c.args.out.now.items c.pass_on.new.out.items c.from_residual-in_err-pass_on-in-New.ensures.1
    (step_late node c.args.link.0 c.args.source c.args.number (record { added = c.args.added; decl = c.args.decl.now }) c.in_ok-step.ensures.refused)
    (c.in_err-pass_on-in-New.ensures.step_prefix (tables node) c.args.link.0 c.args.number (record { added = c.args.added; decl = c.args.decl.now }) same c.self.invariant.links.ascending router next c.requires))

pub returns-in_ok-pass_on-in-New : goal.returns-in_ok-pass_on-in-New
returns-in_ok-pass_on-in-New c =
    let node : NodeState = record { links = c.self.inside.links; base = c.self.inside.base; rows = c.self.inside.local.rows; clients = c.self.inside.local.clients; known = c.self.inside.known; pending = c.self.inside.pending.rows; held = c.self.inside.pending.held; spent = c.self.inside.spent } in
    let router : leads_to_router node.links c.args.link.0 ≡ true = subst (λ (m : NodeState). leads_to_router m.links c.args.link.0 ≡ true) (sym c.self.view_is) (sym c.leads_to_router.ensures ∙ c.if-not-leads_to_router.false) in
    let next : is_next node.known c.args.source c.args.number ≡ true = new_is _ (sym c.in-New.is ∙ c.in_ok-step.ensures.answer) in
    let same : HaveSameTrees (tables node) (tables (with_known node c.step.new.known)) = record { links = refl; base = refl } in
    subst (λ (m : NodeState). IsLeft (step_part m c.args.link.0 c.args.source c.args.number (record { added = c.args.added; decl = c.args.decl.now })) c.pass_on.new.self c.args.out.now.items c.pass_on.new.out.items) c.self.view_is
    (news_taken node c.args.link.0 c.args.source (after_step node.known c.args.source c.args.number (record { added = c.args.added; decl = c.args.decl.now })) (is_next node.known c.args.source c.args.number) (Step c.args.source c.args.number c.args.added c.args.decl.now) (refuses_step node.known c.args.source c.args.number (record { added = c.args.added; decl = c.args.decl.now }))
    router c.pass_on.new.self c.args.out.now.items c.pass_on.new.out.items c.in_ok-step.ensures.refused
    (c.pass_on.ensures.same ∙ ap (λ (k : KnownState). with_known node k) c.in_ok-step.ensures.known)
    (c.in_ok-pass_on-in-New.ensures.step (tables node) c.args.link.0 c.args.number (record { added = c.args.added; decl = c.args.decl.now }) same c.self.invariant.links.ascending router next c.requires))

pub invariant_of-self : goal.invariant_of-self
invariant_of-self c =
    let now : TableState = record { links = c.self.inside.links; base = c.self.inside.base; rows = c.self.inside.local.rows; clients = c.self.inside.local.clients; known = c.step.new.known } in
    let own : c.step.new.known.me ≡ c.self.inside.base.me = first_of (search rules, grind (arith, common_steps)) in
    record {
      links = c.self.invariant.links;
      own = own;
      family = c.self.invariant.family;
      trees = c.self.invariant.trees;
      holders =
          subst (λ (me : List ℕ). HoldJust (all_declared c.self.inside.local.rows me c.self.inside.known.logs) c.self.inside.holders → HoldJust (all_declared c.self.inside.local.rows me c.step.new.known.logs) c.step.new.holders) c.me-me.ensures
          (c.step.ensures.holders c.self.inside.local.rows) c.self.invariant.holders;
      routes = c.forget.ensures now;
    }

pub invariant_of-self-in-Old : goal.invariant_of-self-in-Old
invariant_of-self-in-Old c =
    let now : TableState = record { links = c.self.inside.links; base = c.self.inside.base; rows = c.self.inside.local.rows; clients = c.self.inside.local.clients; known = c.step.new.known } in
    let own : c.step.new.known.me ≡ c.self.inside.base.me = first_of (search rules, grind (arith, common_steps)) in
    record {
      links = c.self.invariant.links;
      own = own;
      family = c.self.invariant.family;
      trees = c.self.invariant.trees;
      holders =
          subst (λ (me : List ℕ). HoldJust (all_declared c.self.inside.local.rows me c.self.inside.known.logs) c.self.inside.holders → HoldJust (all_declared c.self.inside.local.rows me c.step.new.known.logs) c.step.new.holders) c.me-me.ensures
          (c.step.ensures.holders c.self.inside.local.rows) c.self.invariant.holders;
      routes = c.forget.ensures now;
    }

pub invariant_of-self-in-New : goal.invariant_of-self-in-New
invariant_of-self-in-New c =
    let now : TableState = record { links = c.self.inside.links; base = c.self.inside.base; rows = c.self.inside.local.rows; clients = c.self.inside.local.clients; known = c.step.new.known } in
    let own : c.step.new.known.me ≡ c.self.inside.base.me = first_of (search rules, grind (arith, common_steps)) in
    record {
      links = c.self.invariant.links;
      own = own;
      family = c.self.invariant.family;
      trees = c.self.invariant.trees;
      holders =
          subst (λ (me : List ℕ). HoldJust (all_declared c.self.inside.local.rows me c.self.inside.known.logs) c.self.inside.holders → HoldJust (all_declared c.self.inside.local.rows me c.step.new.known.logs) c.step.new.holders) c.me-me.ensures
          (c.step.ensures.holders c.self.inside.local.rows) c.self.invariant.holders;
      routes = c.forget.ensures now;
    }

pub returns-in_err-step : goal.returns-in_err-step
returns-in_err-step c =
    let node : NodeState = record { links = c.self.inside.links; base = c.self.inside.base; rows = c.self.inside.local.rows; clients = c.self.inside.local.clients; known = c.self.inside.known; pending = c.self.inside.pending.rows; held = c.self.inside.pending.held; spent = c.self.inside.spent } in
    let change : Change = record { added = c.args.added; decl = c.args.decl.now } in
    let router : leads_to_router node.links c.args.link.0 ≡ true = subst (λ (m : NodeState). leads_to_router m.links c.args.link.0 ≡ true) (sym c.self.view_is) (sym c.leads_to_router.ensures ∙ c.if-not-leads_to_router.false) in
    let refused = c.in_err-step.ensures.refused in
    subst (λ (m : NodeState). IsDone (step_part m c.args.link.0 c.args.source c.args.number change) c.from_residual.result (with_known node c.step.new.known) c.args.out.now.items c.args.out.now.items) c.self.view_is
    (news_failed node c.args.link.0 c.args.source (after_step node.known c.args.source c.args.number change) (is_next node.known c.args.source c.args.number) (Step c.args.source c.args.number c.args.added c.args.decl.now) (refuses_step node.known c.args.source c.args.number change)
    router c.in_err-step.field-0.0 c.from_residual.result (with_known node c.step.new.known) c.args.out.now.items c.from_residual.ensures.1 (refused_as (refuses_step node.known c.args.source c.args.number change) c.in_err-step.field-0.0 refused)
    (λ e. step_late node c.args.link.0 c.args.source c.args.number change (refused ∙ ap (λ (x : KnownError). refusal {X = Taken} (Err x)) e)) (ap (λ (k : KnownState). with_known node k) c.in_err-step.ensures.unchanged))
