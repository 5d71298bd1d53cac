-- Ways up by index: from router to parent to its parent.
use Rattle.std.specs.Prelude.{◌≡◌, ℕ, ◌<◌, zero, suc, List, [], Option, length, slice_index_or}
use Rattle.std.specs.List.{find}
use Rattle.std.specs.Option.{option_map_or}
use Rattle.zr_tree_parents.specs.declared.row.Neighbour.{Neighbour}
use Rattle.zr_tree_parents.specs.Distance.{is_sum, kept_at}

-- the number at an index
abbrev pub at : List ℕ → ℕ → ℕ
at numbers x = slice_index_or numbers x 0

-- the edges of the router at an index
abbrev pub row : List (List Neighbour) → ℕ → List Neighbour
row rows i = slice_index_or rows i []

-- the index of the first neighbour that is nearer by the edge to it, or the router's own where there is none
abbrev pub nearer : List (List Neighbour) → List (Option ℕ) → ℕ → ℕ
nearer rows distances x = option_map_or (λ n. n.index) (find (λ n. is_sum (kept_at distances n.index) n.weight (kept_at distances x)) (row rows x)) x

-- n steps up from x
abbrev pub climb : List ℕ → ℕ → ℕ → ℕ
climb parents zero x = x
climb parents (suc n) x = climb parents n (at parents x)

-- the parents are indexes
pub record AreIndexes (parents : List ℕ) : Type 0 where
  pub within : (x : ℕ) → x < length parents → at parents x < length parents

-- each jump goes up from the parent
pub record AreJumps (parents jumps : List ℕ) : Type 0 where
  pub long : length jumps ≡ length parents
  pub within : (x : ℕ) → x < length parents → at jumps x < length parents
  pub up : (x : ℕ) → x < length parents → (n : ℕ) × (climb parents n (at parents x) ≡ at jumps x)
