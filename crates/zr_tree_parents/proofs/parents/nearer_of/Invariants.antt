use Rattle.std.proofs.Common.{◌≡◌, drop}
use Rattle.std.specs.List.{find}
use Rattle.zr_tree_parents.specs.Distance.{is_sum, kept_at}
use Rattle.zr_tree_parents.proofs.parents.nearer_of.Given as goal

abbrev pub invariant-loop-n : goal.invariant-loop-n
invariant-loop-n l =
    find (λ n. is_sum (kept_at l.distances n.index) n.weight (kept_at l.distances l.x)) (drop l.n-index l.neighbours)
    ≡ find (λ n. is_sum (kept_at l.distances n.index) n.weight (kept_at l.distances l.x)) l.neighbours
