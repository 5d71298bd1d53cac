use Rattle.std.proofs.Common.{take}
use Rattle.zr_tree_parents.specs.Search.{Offers}
use Rattle.zr_tree_parents.proofs.search.offer.Given as goal

abbrev pub invariant-loop-n : goal.invariant-loop-n
invariant-loop-n l = Offers l.fn.distances l.distances l.fn.found.items l.found.items (take l.n-index l.neighbours) l.distance
