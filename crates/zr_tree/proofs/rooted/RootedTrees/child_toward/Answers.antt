use Rattle.std.proofs.Common.{◌≡◌, ℕ, ◌+◌, suc, Some, sym, ap, ◌∙◌, arith}
use Rattle.zr_tree.specs.Index.{name}
use Rattle.zr_tree.specs.Tree.{tree_depth}
use Rattle.zr_tree.specs.Walk.{graph_of}
use Rattle.zr_tree.proofs.Ancestors.{depth_reached, depth_unreached, step_of, toward_unreached_dest, toward_no_farther, toward_found, toward_other}
use Rattle.zr_tree.proofs.Indexed.{name_in, one_index}
use Rattle.zr_tree.proofs.Reaches.{toward_reached}
use Rattle.zr_tree.proofs.rooted.RootedTrees.child_toward.Goals as goal
use Rattle.zr_tree.proofs.rooted.RootedTrees.child_toward.Goals.{then-far-via-then-far, then-far-via-else-far+then-far-depth}

pub returns-then-far-clause-child : goal.returns-then-far-clause-child
returns-then-far-clause-child c =
    let rs = c.args.self.now in
    elim c.then-far.branch [
      | then-far-via-then-far w ↦
          sym (toward_unreached_dest rs (name rs c.args.root) (name rs c.args.at) (name rs c.args.dest)
          (sym c.hop-far.ensures.kept.1.depth ∙ depth_unreached c.hop-far.result.depth w.if-far.true))
      | then-far-via-else-far+then-far-depth w ↦
          sym (toward_no_farther rs (name rs c.args.root) (name rs c.args.at) (name rs c.args.dest) c.hop-far.result.depth c.hop-depth.result.depth
          (sym c.hop-far.ensures.kept.1.depth ∙ depth_reached c.hop-far.result.depth w.if-far.false)
          c.hop-depth.ensures.kept.1.depth w.if-far-depth.true)
    ]

pub returns-then-hop-at-clause-child : goal.returns-then-hop-at-clause-child
returns-then-hop-at-clause-child c =
    let rs = c.args.self.now in
    let e : c.hop-depth.result.depth + 1 ≡ suc c.hop-depth.result.depth = omega arith in
    let d : tree_depth (graph_of rs) (name rs c.args.root) (name rs c.ancestor-child.result) ≡ Some (suc c.hop-depth.result.depth) = c.ancestor-child.ensures.depth ∙ ap Some e in
    let step = step_of rs c.args.root c.hop.ensures.kept.0 c.ancestor-child.result c.hop-depth.result.depth c.hop.result c.hop.ensures.kept.1 d in
    sym (toward_found rs (name rs c.args.root) (name rs c.args.at) (name rs c.args.dest) c.hop-far.result.depth (name rs c.ancestor-child.result)
    (sym c.hop-far.ensures.kept.1.depth ∙ depth_reached c.hop-far.result.depth c.if-far.false)
    c.ancestor-child.ensures.above (step.parent_to ∙ ap (λ (x : ℕ). Some (name rs x)) c.if-hop-at.true) (name_in rs c.ancestor-child.result c.ancestor-child.ensures.within))

pub returns-then-hop-at-clause-reached : goal.returns-then-hop-at-clause-reached
returns-then-hop-at-clause-reached c =
    let rs = c.args.self.now in
    let found = returns-then-hop-at-clause-child c in
    λ h. toward_reached rs c.hop.ensures.ascending (name rs c.args.root) (name rs c.args.at) (name rs c.args.dest) _ (sym found)

pub returns-else-hop-at-clause-child : goal.returns-else-hop-at-clause-child
returns-else-hop-at-clause-child c =
    let rs = c.args.self.now in
    let e : c.hop-depth.result.depth + 1 ≡ suc c.hop-depth.result.depth = omega arith in
    let d : tree_depth (graph_of rs) (name rs c.args.root) (name rs c.ancestor-child.result) ≡ Some (suc c.hop-depth.result.depth) = c.ancestor-child.ensures.depth ∙ ap Some e in
    let step = step_of rs c.args.root c.hop.ensures.kept.0 c.ancestor-child.result c.hop-depth.result.depth c.hop.result c.hop.ensures.kept.1 d in
    sym (toward_other rs (name rs c.args.root) (name rs c.args.at) (name rs c.args.dest) c.hop-far.result.depth c.hop-depth.result.depth (name rs c.ancestor-child.result) (name rs c.hop.result.parent)
    (sym c.hop-far.ensures.kept.1.depth ∙ depth_reached c.hop-far.result.depth c.if-far.false)
    c.ancestor-child.ensures.above c.hop-depth.ensures.kept.1.depth c.ancestor-child.ensures.depth step.parent_to
    (λ same. c.if-hop-at.false (one_index rs c.hop.result.parent c.args.at c.hop.ensures.ascending c.hop.ensures.kept.1.parent_within c.requires.at same)))
