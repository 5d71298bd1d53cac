-- What a loop adds to an index, and what is left to be added.
use Rattle.std.proofs.Common.{◌≡◌, ℕ, ◌+◌, ◌<◌, List, [], ◌∷◌, ◌++◌, drop, length, get_or, sym, ap, ◌∙◌, arith}
use Rattle.std.specs.List.{flat_map, sum_by}
use Rattle.std.proofs.lemmas.List.{at_drop_more}
use Rattle.std.proofs.lemmas.List.Concat.{flat_map-cons}
use Rattle.std.proofs.lemmas.List.Sums.{sum_by-append}
use Rattle.zr_index.specs.Pairs.{Pairs}

module _ {X V : Type 0} (g : X → Pairs V) (f : List (List ℕ) × V → ℕ) where
  -- what one element adds is left no more
  left_more : (xs : List X) (i : ℕ) (x : X) → i < length xs → x ≡ get_or xs i x
      → sum_by f (flat_map g (drop i xs)) ≡ sum_by f (g x) + sum_by f (flat_map g (drop (i + 1) xs))
  left_more xs i x less is =
      at_drop_more (λ ys. sum_by f (flat_map g ys)) xs i x less
      ∙ ap (λ y. sum_by f (flat_map g (y ∷ drop (i + 1) xs))) (sym is)
      ∙ ap (sum_by f) (flat_map-cons g x (drop (i + 1) xs))
      ∙ sum_by-append f (g x) (flat_map g (drop (i + 1) xs))

  pub added_more : (xs : List X) (i : ℕ) (x : X) (old new : Pairs V) (all : ℕ) → i < length xs → x ≡ get_or xs i x → sum_by f new ≡ sum_by f (g x ++ old)
      → sum_by f old + sum_by f (flat_map g (drop i xs)) ≡ all → sum_by f new + sum_by f (flat_map g (drop (i + 1) xs)) ≡ all
  added_more xs i x old new all less is added so_far =
      omega (arith, left_more xs i x less is, added, so_far, sum_by-append f (g x) old)

-- nothing is left
pub added_all : {X V : Type 0} (g : X → Pairs V) (f : List (List ℕ) × V → ℕ) (xs : List X) (i : ℕ) (now : Pairs V) (all : ℕ) → drop i xs ≡ [] → sum_by f now + sum_by f (flat_map g (drop i xs)) ≡ all → sum_by f now ≡ all
added_all g f xs i now all none h = omega (arith, h, ap (λ ys. sum_by f (flat_map g ys)) none)
