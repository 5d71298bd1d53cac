-- What a search from a root finds, by index: distances that are right by themselves, from edge to edge.
use Rattle.std.specs.Prelude.{◌≡◌, ℕ, ◌+◌, ◌<◌, ◌≤◌, ◌&&◌, ◌==◌, ◌⊎◌, Bool, true, List, Option, Some, None, All, is_none, cond, length, slice_index_or}
use Rattle.std.specs.List.{list_any, sum_by}
use Rattle.zr_tree_parents.specs.Climb.{row}
use Rattle.zr_tree_parents.specs.Distance.{kept_at}
use Rattle.zr_tree_parents.specs.declared.row.Neighbour.{Neighbour}

-- an index is among these
abbrev pub has_index : List ℕ → ℕ → Bool
has_index indexes x = list_any (λ j. j == x) indexes

-- among these edges is one to x of this weight
abbrev pub leads_to : List Neighbour → ℕ → ℕ → Bool
leads_to edges x weight = list_any (λ n. n.index == x && n.weight == weight) edges

-- The distances from a root are those of shortest walks: the root is at zero, each other router that has a distance has it by an edge from one
-- that has a distance, and no edge leads to a shorter one.
pub record AreNearest (rows : List (List Neighbour)) (root : ℕ) (distances : List (Option ℕ)) : Type 0 where
  pub long : length distances ≡ length rows
  pub at_root : kept_at distances root ≡ Some 0
  pub over : (x n : ℕ) → kept_at distances x ≡ Some n →
      (x ≡ root) ⊎ ((y : ℕ) × (m : ℕ) × (w : ℕ) × (kept_at distances y ≡ Some m) × (leads_to (row rows y) x w ≡ true) × (n ≡ m + w))
  pub no_shorter : (y m x w : ℕ) → kept_at distances y ≡ Some m → leads_to (row rows y) x w ≡ true → (n : ℕ) × (n ≤ m + w) × (kept_at distances x ≡ Some n)

-- all routers that have a distance, the nearer ones first
pub record IsOrder (distances : List (Option ℕ)) (order : List ℕ) : Type 0 where
  pub within : All (λ x. x < length distances) order
  pub few : length order ≤ length distances
  pub reached : (x : ℕ) → has_index order x ≡ true → (n : ℕ) × (kept_at distances x ≡ Some n)
  pub whole : (x n : ℕ) → kept_at distances x ≡ Some n → has_index order x ≡ true
  pub ascending : (k l m n : ℕ) → k ≤ l → l < length order → kept_at distances (slice_index_or order k 0) ≡ Some m → kept_at distances (slice_index_or order l 0) ≡ Some n → m ≤ n

-- at this place is the nearest of these routers, and it is so far away
pub record IsNearest (found : List ℕ) (distances : List (Option ℕ)) (place distance : ℕ) : Type 0 where
  pub within : place < length found
  pub is : kept_at distances (slice_index_or found place 0) ≡ Some distance
  pub least : (x n : ℕ) → has_index found x ≡ true → kept_at distances x ≡ Some n → distance ≤ n

-- how many routers have no distance
abbrev pub nones : List (Option ℕ) → ℕ
nones distances = sum_by (λ o. cond (is_none o) 1 0) distances

-- a router at a distance has offered each of these neighbours a walk over it, and those that had no distance are open
pub record Offers (old new : List (Option ℕ)) (before after : List ℕ) (edges : List Neighbour) (distance : ℕ) : Type 0 where
  pub source : (x n : ℕ) → kept_at new x ≡ Some n → (kept_at old x ≡ Some n) ⊎ ((w : ℕ) × (leads_to edges x w ≡ true) × (n ≡ distance + w))
  pub kept : (x m : ℕ) → kept_at old x ≡ Some m → (n : ℕ) × (n ≤ m) × (kept_at new x ≡ Some n)
  pub taken : (x w : ℕ) → leads_to edges x w ≡ true → (n : ℕ) × (n ≤ distance + w) × (kept_at new x ≡ Some n)
  pub still : (x : ℕ) → has_index before x ≡ true → has_index after x ≡ true
  pub opened : (x n : ℕ) → kept_at old x ≡ None → kept_at new x ≡ Some n → has_index after x ≡ true
  pub only : (x : ℕ) → has_index after x ≡ true → (has_index before x ≡ true) ⊎ ((kept_at old x ≡ None) × (w : ℕ) × (leads_to edges x w ≡ true))
  pub count : length after + nones new ≡ length before + nones old
