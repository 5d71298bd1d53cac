-- What `starts_with` says of lists, where a test of their elements finds them to be one exactly where they are.
use Rattle.std.proofs.Common.{◌≡◌, true, List, [], ◌∷◌, ◌++◌, refl, sym, ap, ◌∙◌}
use Rattle.std.specs.Prelude.{Bool, length, take, drop}
use Rattle.std.specs.Bool.{Decides}
use Rattle.std.specs.Cmp.Lexicographic.{pointwise}
use Rattle.std.specs.List.{starts_with}
use Rattle.std.proofs.lemmas.Bool.{false≢true, and_parts}
use Rattle.std.proofs.lemmas.Slice.Eq.{starts_is}
use Rattle.zr_lists.specs.Prefix.{IsPrefixOf}

module _ {X : Type 0} (same : X → X → Bool) (one : (x y : X) → Decides (same x y) (x ≡ y)) where
  pub prefix_means : (xs ys : List X) → starts_with same ys xs ≡ true → IsPrefixOf xs ys
  prefix_means xs ys h = (drop (length xs) ys, (starts_is one ys xs (starts_with same ys xs) refl).0 h)

  pub prefix_holds : (xs ys : List X) → IsPrefixOf xs ys → starts_with same ys xs ≡ true
  prefix_holds xs ys p = (starts_is one ys xs (starts_with same ys xs) refl).1 p.0 p.1

  pub same_holds : (xs ys : List X) → xs ≡ ys → starts_with same ys xs ≡ true
  same_holds xs ys e = prefix_holds xs ys ([], sym e ∙ none_behind xs)
    where
      none_behind : (zs : List X) → zs ≡ zs ++ []
      none_behind [] = refl
      none_behind (z ∷ zs) = ap (λ rest. z ∷ rest) (none_behind zs)

  pub both_prefixes : (xs ys : List X) → starts_with same ys xs ≡ true → starts_with same xs ys ≡ true → xs ≡ ys
  both_prefixes [] [] h k = refl
  both_prefixes [] (y ∷ ys) h k = absurd (false≢true k)
  both_prefixes (x ∷ xs) [] h k = absurd (false≢true h)
  both_prefixes (x ∷ xs) (y ∷ ys) h k =
      let parts = and_parts (same x y) (pointwise same xs (take (length xs) ys)) h in
      ap (λ z. z ∷ xs) ((one x y).0 parts.0) ∙ ap (λ z. y ∷ z) (both_prefixes xs ys parts.1 (and_parts (same y x) (pointwise same ys (take (length ys) xs)) k).1)
