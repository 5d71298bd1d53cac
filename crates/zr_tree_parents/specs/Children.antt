-- Children by index.
use Rattle.std.specs.Prelude.{ℕ, ◌&&◌, ◌==◌, not, Bool, List, [], map, slice_index_or}
use Rattle.std.specs.List.{filter}
use Rattle.zr_tree_parents.specs.declared.row.Neighbour.{Neighbour}
use Rattle.zr_tree_parents.specs.Climb.{at}

-- the parent of y is x, and y is another
abbrev pub is_child_index : List ℕ → ℕ → ℕ → Bool
is_child_index parents x y = at parents y == x && not (y == x)

-- the names of those of these neighbours whose parent is x
abbrev pub children_by : List (List ℕ) → List ℕ → ℕ → List Neighbour → List (List ℕ)
children_by names parents x neighbours = map (λ n. slice_index_or names n.index []) (filter (λ n. is_child_index parents x n.index) neighbours)
