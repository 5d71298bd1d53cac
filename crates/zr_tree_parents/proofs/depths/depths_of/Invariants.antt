use Rattle.std.proofs.Common.{take}
use Rattle.zr_tree_parents.proofs.Deeper.{AreSoFar}
use Rattle.zr_tree_parents.proofs.depths.depths_of.Given as goal

abbrev pub invariant-loop-x : goal.invariant-loop-x
invariant-loop-x l = AreSoFar l.parents (take l.x-index l.order) l.depths.items
