-- How often a number stands in a list, and an index that says so.
use Rattle.std.specs.Prelude.{◌≡◌, ◌==◌, ℕ, List, count_by}
use Rattle.std.specs.Map.{lookup}
use Rattle.std.specs.Option.{option_map_or}
use Rattle.std.specs.Ordering.{nat_cmp, is_eq}
use Rattle.zr_world_numbers.specs.declared.numbers.Entry.{Entry}

abbrev pub how_often : ℕ → List ℕ → ℕ
how_often n ns = count_by (λ m. m == n) ns

-- how often the index says that a number stands there
abbrev pub times_in : List (ℕ × Entry) → ℕ → ℕ
times_in index n = option_map_or (λ (e : Entry). e.times) (lookup (λ k. is_eq (nat_cmp n k)) index) 0

-- the index says so of each number
abbrev pub IsIndex : List (ℕ × Entry) → List ℕ → Type 0
IsIndex index ns = (n : ℕ) → times_in index n ≡ how_often n ns
