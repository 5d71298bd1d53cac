use Rattle.zr_tree_parents.proofs.Deeper.{depths_more}
use Rattle.zr_tree_parents.proofs.depths.depths_of.Goals as goal

pub loop-x-preserved : goal.loop-x-preserved
loop-x-preserved c =
    rw (c.depth_below.ensures, c.deref.ensures.value) (depths_more c.args.parents.now c.args.order.now c.loop-x.x-index c.loop-x.depths.items c.requires.parents c.requires.behind c.loop-x-test.true
    (c.requires.order c.loop-x.x-index 0 c.loop-x-test.true) c.loop-x.invariant)
