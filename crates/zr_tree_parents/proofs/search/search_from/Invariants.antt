use Rattle.std.proofs.Common.{◌+◌, length}
use Rattle.zr_tree_parents.specs.Search.{nones}
use Rattle.zr_tree_parents.proofs.Settling.{IsSettling}
use Rattle.zr_tree_parents.proofs.search.search_from.Given as goal

abbrev pub invariant-loop-place : goal.invariant-loop-place
invariant-loop-place l = IsSettling l.rows l.root l.order.items l.found.items l.distances.items

abbrev pub decreases-loop-place : goal.decreases-loop-place
decreases-loop-place l = length l.found.items + nones l.distances.items
