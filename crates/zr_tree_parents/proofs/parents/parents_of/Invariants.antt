use Rattle.std.proofs.Common.{◌≡◌, map}
use Rattle.std.specs.List.{range_with_len}
use Rattle.zr_tree_parents.specs.Climb.{nearer}
use Rattle.zr_tree_parents.proofs.parents.parents_of.Given as goal

abbrev pub invariant-loop-x : goal.invariant-loop-x
invariant-loop-x l = l.parents.items ≡ map (nearer l.rows l.distances) (range_with_len 0 l.x)
