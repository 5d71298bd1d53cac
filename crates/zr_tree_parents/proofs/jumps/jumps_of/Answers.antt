use Rattle.std.proofs.Common.{ℕ, get_or}
use Rattle.zr_tree_parents.proofs.Upward.{jumps_set}
use Rattle.zr_tree_parents.proofs.jumps.jumps_of.Goals as goal

pub loop-x-preserved : goal.loop-x-preserved
loop-x-preserved c =
    let x : ℕ = get_or c.args.order.now c.loop-x.x-index 0 in
    jumps_set c.args.parents.now c.loop-x.jumps.items x c.jump_over.result c.requires.parents c.loop-x.invariant (c.requires.order c.loop-x.x-index 0 c.loop-x-test.true) (rw c.deref.ensures.value at c.jump_over.ensures)
