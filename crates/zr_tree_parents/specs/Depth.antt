-- How deep routers are in a tree, by index.
use Rattle.std.specs.Prelude.{◌≡◌, ℕ, suc, ◌<◌, ◌==◌, ◌⊎◌, true, false, List, Option, Some, None, length, take, slice_index_or, if◌then◌else◌}
use Rattle.std.specs.Option.{option_map}
use Rattle.zr_tree_parents.specs.Climb.{at}
use Rattle.zr_tree_parents.specs.Distance.{kept_at}
use Rattle.zr_tree_parents.specs.Search.{has_index}

-- one deeper than the parent; a router that is its own parent is at depth zero
abbrev pub depth_below : List ℕ → List (Option ℕ) → ℕ → Option ℕ
depth_below parents depths x = if at parents x == x then Some 0 else option_map (λ n. suc n) (kept_at depths (at parents x))

-- each router in the order stands behind its parent, or is its own
abbrev pub AreBehind : List ℕ → List ℕ → Type 0
AreBehind parents order =
    (k : ℕ) → k < length order → (at parents (slice_index_or order k 0) ≡ slice_index_or order k 0) ⊎ (has_index (take k order) (at parents (slice_index_or order k 0)) ≡ true)

-- the depths of the routers in the order, and no other
pub record AreDepths (parents order : List ℕ) (depths : List (Option ℕ)) : Type 0 where
  pub long : length depths ≡ length parents
  pub below : (x : ℕ) → has_index order x ≡ true → kept_at depths x ≡ depth_below parents depths x
  pub only : (x : ℕ) → has_index order x ≡ false → kept_at depths x ≡ None
