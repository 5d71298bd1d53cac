-- A list is gone through, and the elements that a test keeps are appended.
use Rattle.std.proofs.Common.{◌≡◌, ℕ, ◌+◌, ◌<◌, Bool, true, false, cond, List, [], ◌∷◌, ◌++◌, length, drop, filter, sym, ap, subst, ◌∙◌}
use Rattle.std.proofs.Math.ListN.{get_or}
use Rattle.std.proofs.lemmas.List.{at_drop_more}
use Rattle.zr_lists.proofs.Prefixes.{IsSoFar, so_far_one}

module _ {X : Type 0} (test : X → Bool) (before : List X) where
  -- what is kept of the elements from a place on is left to be appended
  abbrev IsLeftFrom : List X → List X → ℕ → Type 0
  IsLeftFrom xs now i = IsSoFar before (filter test xs) now (filter test (drop i xs))

  one_more : (xs : List X) (i : ℕ) (d : X) (b : Bool) → i < length xs → test (get_or xs i d) ≡ b → filter test (drop i xs) ≡ cond b (get_or xs i d ∷ filter test (drop (i + 1) xs)) (filter test (drop (i + 1) xs))
  one_more xs i d b less is =
      let x : X = get_or xs i d in
      let rest : List X = filter test (drop (i + 1) xs) in
      at_drop_more (λ ys. filter test ys) xs i d less ∙ ap (λ b. cond b (x ∷ rest) rest) is

  pub kept_more : (xs : List X) (i : ℕ) (d : X) (now next : List X) → i < length xs → test (get_or xs i d) ≡ true → next ≡ now ++ get_or xs i d ∷ [] → IsLeftFrom xs now i → IsLeftFrom xs next (i + 1)
  kept_more xs i d now next less is e h =
      so_far_one before (filter test xs) now next (get_or xs i d) (filter test (drop (i + 1) xs)) (subst (λ (ys : List X). IsSoFar before (filter test xs) now ys) (one_more xs i d true less is) h) e

  pub kept_past : (xs : List X) (i : ℕ) (d : X) (now next : List X) → i < length xs → test (get_or xs i d) ≡ false → next ≡ now → IsLeftFrom xs now i → IsLeftFrom xs next (i + 1)
  kept_past xs i d now next less is e h =
      subst (λ (ys : List X). IsSoFar before (filter test xs) ys (filter test (drop (i + 1) xs))) (sym e) (subst (λ (ys : List X). IsSoFar before (filter test xs) now ys) (one_more xs i d false less is) h)
