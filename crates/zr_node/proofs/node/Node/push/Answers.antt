use Rattle.std.proofs.Common.{◌≡◌, ℕ, List, Option, Some, refl, sym, subst}
use Rattle.std.specs.Prelude.{IfSome}
use Rattle.std.proofs.lemmas.Result.{IfOk-at_ok, IfErr-at_err}
use Rattle.zr_id.specs.Record.{RecordState}
use Rattle.zr_node_spec.specs.Samples.{sends_push}
use Rattle.zr_node_spec.specs.Tables.{TableState, AreNumbered, link_at}
use Rattle.zr_node_spec.specs.Event.{Tells, TellsPrefix}
use Rattle.zr_node_spec.specs.State.{NodeState, tables}
use Rattle.zr_node_spec.proofs.Links.{found_number}
use Rattle.zr_node.specs.Done.{IsLeft, IsDone}
use Rattle.zr_push.specs.Routes.{AreRoutes}
use Rattle.zr_push_sought.specs.Holders.{HoldJust}
use Rattle.zr_push_sought.specs.Pairs.{declared_by}
use Rattle.zr_node.specs.Steps.{push_part}
use Rattle.zr_node.proofs.Done.{lacked, nothing_sent}
use Rattle.zr_node.proofs.Pushed.{at_itself}
use Rattle.zr_node.proofs.node.Node.push.Goals as goal

pub returns-in_err-pushed : goal.returns-in_err-pushed
returns-in_err-pushed c =
    let node : NodeState = record { links = c.self.inside.links; base = c.self.inside.base; rows = c.self.inside.local.rows; clients = c.self.inside.local.clients; known = c.self.inside.known; pending = c.self.inside.pending.rows; held = c.self.inside.pending.held; spent = c.self.inside.spent } in
    let up = subst (λ (t : TableState). AreNumbered t.links) (sym c.lend-tables.ensures) c.self.invariant.links.ascending in
    let at = subst (λ (t : TableState). link_at t.links c.in-Some.from.link.0 ≡ Some c.in-Some.from) (sym c.lend-tables.ensures) (at_itself c.self.inside.links c.args.link.0 c.in-Some.from c.in-Some.ensures) in
    subst (λ (m : NodeState). IsDone (push_part m c.args.link.0 c.args.tree c.args.content.now) c.from_residual-in_err-pushed.result node c.args.out.now.items c.push-pushed.new.out.items) c.self.view_is
    (lacked (push_part node c.args.link.0 c.args.tree c.args.content.now) c.from_residual-in_err-pushed.result node c.args.out.now.items c.push-pushed.new.out.items c.from_residual-in_err-pushed.ensures.1 refl
    (subst (λ (k : ℕ). TellsPrefix (sends_push (tables node) k c.args.tree c.args.content.now) c.args.out.now.items c.push-pushed.new.out.items) (found_number node.links c.args.link.0 c.in-Some.from (sym c.in-Some.ensures))
    (subst (λ (t : TableState). TellsPrefix (sends_push t c.in-Some.from.link.0 c.args.tree c.args.content.now) c.args.out.now.items c.push-pushed.new.out.items) c.lend-tables.ensures
    (IfErr-at_err (λ e. TellsPrefix (sends_push c.lend-tables.result c.in-Some.from.link.0 c.args.tree c.args.content.now) c.args.out.now.items c.push-pushed.new.out.items) c.in_err-pushed.was (c.push-pushed.ensures.err up at)))))

pub returns : goal.returns
returns c =
    let node : NodeState = record { links = c.self.inside.links; base = c.self.inside.base; rows = c.self.inside.local.rows; clients = c.self.inside.local.clients; known = c.self.inside.known; pending = c.self.inside.pending.rows; held = c.self.inside.pending.held; spent = c.self.inside.spent } in
    let up = subst (λ (t : TableState). AreNumbered t.links) (sym c.lend-tables.ensures) c.self.invariant.links.ascending in
    let at = subst (λ (t : TableState). link_at t.links c.in-Some.from.link.0 ≡ Some c.in-Some.from) (sym c.lend-tables.ensures) (at_itself c.self.inside.links c.args.link.0 c.in-Some.from c.in-Some.ensures) in
    subst (λ (m : NodeState). IsLeft (push_part m c.args.link.0 c.args.tree c.args.content.now) node c.args.out.now.items c.push-pushed.new.out.items) c.self.view_is
    (record {
      allowed = refl;
      state = refl;
      sends = (subst (λ (k : ℕ). Tells (sends_push (tables node) k c.args.tree c.args.content.now) c.args.out.now.items c.push-pushed.new.out.items) (found_number node.links c.args.link.0 c.in-Some.from (sym c.in-Some.ensures))
          (subst (λ (t : TableState). Tells (sends_push t c.in-Some.from.link.0 c.args.tree c.args.content.now) c.args.out.now.items c.push-pushed.new.out.items) c.lend-tables.ensures
          (IfOk-at_ok (λ x. Tells (sends_push c.lend-tables.result c.in-Some.from.link.0 c.args.tree c.args.content.now) c.args.out.now.items c.push-pushed.new.out.items) c.in_ok-pushed.was (c.push-pushed.ensures.ok up at))));
    })

pub invariant_of-self-in_err-pushed : goal.invariant_of-self-in_err-pushed
invariant_of-self-in_err-pushed c =
    record {
      links = c.self.invariant.links;
      own = c.self.invariant.own;
      family = c.self.invariant.family;
      trees = subst (λ (o : Option (List RecordState)). IfSome o (λ r. r ≡ c.self.inside.base.records)) (sym c.put_trees.ensures) c.in_ok-trees.ensures.trees;
      holders = subst (λ (t : TableState). HoldJust (declared_by t) c.push-pushed.new.holders) c.lend-tables.ensures c.push-pushed.ensures.holders;
      routes = subst (λ (t : TableState). AreRoutes c.push-pushed.new.routes t) c.lend-tables.ensures c.push-pushed.ensures.routes;
    }

pub invariant_of-self-2 : goal.invariant_of-self-2
invariant_of-self-2 c =
    record {
      links = c.self.invariant.links;
      own = c.self.invariant.own;
      family = c.self.invariant.family;
      trees = subst (λ (o : Option (List RecordState)). IfSome o (λ r. r ≡ c.self.inside.base.records)) (sym c.put_trees.ensures) c.in_ok-trees.ensures.trees;
      holders = subst (λ (t : TableState). HoldJust (declared_by t) c.push-pushed.new.holders) c.lend-tables.ensures c.push-pushed.ensures.holders;
      routes = subst (λ (t : TableState). AreRoutes c.push-pushed.new.routes t) c.lend-tables.ensures c.push-pushed.ensures.routes;
    }

pub returns-in_err-trees : goal.returns-in_err-trees
returns-in_err-trees c = nothing_sent (push_part c.args.self.now c.args.link.0 c.args.tree c.args.content.now) c.from_residual.result _ c.args.out.now.items c.from_residual.ensures.1 refl
