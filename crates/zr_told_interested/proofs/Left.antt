-- What a loop has still to go through, and what holds of all once it holds of that.
use Rattle.std.proofs.Common.{◌≡◌, ℕ, ◌+◌, ◌<◌, List, [], ◌∷◌, drop, length, get_or, sym, ap, ◌∙◌, subst}
use Rattle.std.specs.List.{AllByRecursion}
use Rattle.std.proofs.lemmas.List.{at_drop_more}

module _ {X : Type 0} (P : X → Type 0) where
  pub next_holds : (xs : List X) (i : ℕ) (x : X) → i < length xs → x ≡ get_or xs i x → P x → (AllByRecursion P (drop i xs) → AllByRecursion P xs) → AllByRecursion P (drop (i + 1) xs) → AllByRecursion P xs
  next_holds xs i x less is here all rest = all (subst (λ (ys : List X). AllByRecursion P ys) (sym (at_drop_more (λ z. z) xs i x less ∙ ap (λ z. z ∷ drop (i + 1) xs) (sym is))) (here, rest))

  pub all_hold : (xs : List X) (i : ℕ) → drop i xs ≡ [] → (AllByRecursion P (drop i xs) → AllByRecursion P xs) → AllByRecursion P xs
  all_hold xs i none all = all (subst (λ (ys : List X). AllByRecursion P ys) (sym none) tt)
