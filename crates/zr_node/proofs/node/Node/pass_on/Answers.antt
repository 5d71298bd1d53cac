use Rattle.std.proofs.Common.{◌≡◌, Option, sym, ap, subst, ◌∙◌}
use Rattle.std.specs.Prelude.{IfSome}
use Rattle.zr_graph.specs.Base.{BaseState}
use Rattle.zr_node_spec.specs.State.{NodeState, tables}
use Rattle.zr_node.proofs.Parts.{goes_by}
use Rattle.zr_node.proofs.node.Node.pass_on.Goals as goal

pub returns-clause-step : goal.returns-clause-step
returns-clause-step c = λ t from number k same.
    let by = goes_by _ (tables c.args.self.now) c.as_slice.result.now c.in_ok-family.family same
    (sym (ap (λ (m : NodeState). m.links) c.self.view_is) ∙ sym c.as_slice.ensures.value) (sym (ap (λ (m : NodeState). m.base) c.self.view_is) ∙ sym c.in_ok-family.ensures.family) in
    c.pass_on-told.ensures.step t from number k by

pub returns-clause-step_prefix : goal.returns-clause-step_prefix
returns-clause-step_prefix c = λ t from number k same.
    let by = goes_by _ (tables c.args.self.now) c.as_slice.result.now c.in_ok-family.family same
    (sym (ap (λ (m : NodeState). m.links) c.self.view_is) ∙ sym c.as_slice.ensures.value) (sym (ap (λ (m : NodeState). m.base) c.self.view_is) ∙ sym c.in_ok-family.ensures.family) in
    c.pass_on-told.ensures.step_prefix t from number k by

pub returns-clause-snap : goal.returns-clause-snap
returns-clause-snap c = λ t from number ds same.
    let by = goes_by _ (tables c.args.self.now) c.as_slice.result.now c.in_ok-family.family same
    (sym (ap (λ (m : NodeState). m.links) c.self.view_is) ∙ sym c.as_slice.ensures.value) (sym (ap (λ (m : NodeState). m.base) c.self.view_is) ∙ sym c.in_ok-family.ensures.family) in
    c.pass_on-told.ensures.snap t from number ds by

pub returns-clause-snap_prefix : goal.returns-clause-snap_prefix
returns-clause-snap_prefix c = λ t from number ds same.
    let by = goes_by _ (tables c.args.self.now) c.as_slice.result.now c.in_ok-family.family same
    (sym (ap (λ (m : NodeState). m.links) c.self.view_is) ∙ sym c.as_slice.ensures.value) (sym (ap (λ (m : NodeState). m.base) c.self.view_is) ∙ sym c.in_ok-family.ensures.family) in
    c.pass_on-told.ensures.snap_prefix t from number ds by

pub invariant_of-self-2 : goal.invariant_of-self-2
invariant_of-self-2 c =
    record {
      links = c.self.invariant.links;
      own = c.self.invariant.own;
      family = subst (λ (o : Option BaseState). IfSome o (λ b. b ≡ c.self.inside.base)) (sym c.put_family.ensures) c.in_ok-family.ensures.family;
      trees = c.self.invariant.trees;
      holders = c.self.invariant.holders;
      routes = c.self.invariant.routes;
    }
