use Rattle.std.proofs.Common.{take}
use Rattle.zr_tree_parents.proofs.FirstChildren.{AreFirst}
use Rattle.zr_tree_parents.proofs.children.are_children.Given as goal

abbrev pub invariant-loop-n : goal.invariant-loop-n
invariant-loop-n l = AreFirst l.list l.names l.parents l.x (take l.n-index l.neighbours) l.count
