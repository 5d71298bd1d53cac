use Rattle.std.proofs.Common.{sym, ◌∙◌}
use Rattle.zr_tree_parents.proofs.FirstChildren.{one_more, no_more}
use Rattle.zr_tree_parents.proofs.children.are_children.Goals as goal
use Rattle.zr_tree_parents.proofs.children.are_children.Goals.{then-is_child+else-not-stands_at, else-is_child}

pub loop-n-preserved : goal.loop-n-preserved
loop-n-preserved c =
    elim c.if-is_child.branch [
      | then-is_child+else-not-stands_at w ↦
          (let stands = w.stands_at.ensures w.if-not-stands_at.false in
          rw w.count-is (one_more c.args.list.now c.args.names.now c.args.parents.now c.args.x c.args.neighbours.now c.loop-n.n-index c.loop-n.count c.loop-n-test.true c.loop-n.invariant (sym c.is_child.ensures ∙ w.if-is_child.true) stands.0 stands.1))
      | else-is_child w ↦
          rw w.count-is (no_more c.args.list.now c.args.names.now c.args.parents.now c.args.x c.args.neighbours.now c.loop-n.n-index c.loop-n.count c.loop-n-test.true c.loop-n.invariant (sym c.is_child.ensures ∙ w.if-is_child.false))
    ]
