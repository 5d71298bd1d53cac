use Rattle.std.proofs.Common.{◌≡◌, None, All, MatchOption, take}
use Rattle.zr_tree_parents.specs.Distance.{kept_at}
use Rattle.zr_tree_parents.specs.Search.{IsNearest}
use Rattle.zr_tree_parents.proofs.search.nearest_of.Given as goal

abbrev pub invariant-loop-place : goal.invariant-loop-place
invariant-loop-place l = MatchOption l.best (All (λ x. kept_at l.distances x ≡ None) (take l.place l.found)) (λ n. IsNearest (take l.place l.found) l.distances n.place n.distance)
