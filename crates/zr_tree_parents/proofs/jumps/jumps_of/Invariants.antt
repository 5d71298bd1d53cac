use Rattle.zr_tree_parents.specs.Climb.{AreJumps}
use Rattle.zr_tree_parents.proofs.jumps.jumps_of.Given as goal

abbrev pub invariant-loop-x : goal.invariant-loop-x
invariant-loop-x l = AreJumps l.parents l.jumps.items
