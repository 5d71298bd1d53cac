-- The distances from each router that was searched from, by its index.
use Rattle.std.specs.Prelude.{◌≡◌, ℕ, true, Bool, List, Option, Some, None, All, is_some, length, option_and_then, slice_index_or}
use Rattle.zr_tree_parents.specs.declared.row.Neighbour.{Neighbour}
use Rattle.zr_tree_parents.specs.Distance.{kept_at, is_sum}
use Rattle.zr_tree.specs.Index.{EdgeTable}
use Rattle.zr_tree.specs.Search.{AreDistances}

-- what a search from a router found, if there was one
abbrev pub found_from : List (Option (List (Option ℕ))) → ℕ → Option (List (Option ℕ))
found_from searches start = slice_index_or searches start None

-- whether a router was searched from
abbrev pub is_searched : List (Option (List (Option ℕ))) → ℕ → Bool
is_searched searches start = is_some (found_from searches start)

-- how far a router is from one that was searched from
abbrev pub distance_kept : List (Option (List (Option ℕ))) → ℕ → ℕ → Option ℕ
distance_kept searches start router = option_and_then (λ distances. kept_at distances router) (found_from searches start)

-- a neighbour of a router is nearer to a root by the edge to it, by the distances from both
abbrev pub is_nearer : List (Option (List (Option ℕ))) → Neighbour → ℕ → ℕ → Bool
is_nearer searches near far root = is_sum (distance_kept searches near.index root) near.weight (distance_kept searches far root)

-- what was found are the distances
pub record AreSearches (e : EdgeTable) (searches : List (Option (List (Option ℕ)))) : Type 0 where
  pub long : length searches ≡ length e.records
  pub each : (start : ℕ) (distances : List (Option ℕ)) → found_from searches start ≡ Some distances → AreDistances e start distances

-- these routers were searched from, and each one that was before
pub record Searched (e : EdgeTable) (before after : List (Option (List (Option ℕ)))) (starts : List ℕ) : Type 0 where
  pub are : AreSearches e after
  pub kept : (start : ℕ) → is_searched before start ≡ true → is_searched after start ≡ true
  pub these : All (λ start. is_searched after start ≡ true) starts
