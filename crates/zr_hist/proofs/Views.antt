-- Lists of seats' views: what is at a place of a longer one, and what fits all seats as one of them changes or comes.
use Rattle.std.proofs.Common.{◌≡◌, ◌≢◌, ℕ, zero, suc, ◌<◌, ◌⊎◌, ⊎_elim, List, [], ◌∷◌, ◌++◌, length, set, refl, ap, sym, subst, inl, inr, arith}
use mathlib.Core.Option.{some, some-injective, some-ne-none}
use lib.ListN.{get_elem?}
use Rattle.atomic_table.proofs.Lists.{at_set}

module _ {A : Type 0} where
  pub at_end : (l : List A) (a b : A) (j : ℕ) → get_elem? (l ++ a ∷ []) j ≡ some b → (get_elem? l j ≡ some b) ⊎ ((j ≡ length l) × (a ≡ b))
  at_end [] a b zero e = inr (refl, some-injective a b e)
  at_end [] a b (suc j) e = absurd (some-ne-none b (sym e))
  at_end (x ∷ xs) a b zero e = inl e
  at_end (x ∷ xs) a b (suc j) e = at_end_more x xs a b j (at_end xs a b j e)
    where
      at_end_more : (x : A) (xs : List A) (a b : A) (j : ℕ) → (get_elem? xs j ≡ some b) ⊎ ((j ≡ length xs) × (a ≡ b)) → (get_elem? (x ∷ xs) (suc j) ≡ some b) ⊎ ((suc j ≡ length (x ∷ xs)) × (a ≡ b))
      at_end_more x xs a b j (inl h) = inl h
      at_end_more x xs a b j (inr h) = inr (ap suc h.0, h.1)

  pub at_below : (l : List A) (j : ℕ) (b : A) → get_elem? l j ≡ some b → j < length l
  at_below [] j b e = absurd (some-ne-none b (sym e))
  at_below (x ∷ xs) zero b e = omega arith
  at_below (x ∷ xs) (suc j) b e = let h = at_below xs j b e in omega arith

module _ {V : Type 0} (Fits : ℕ → V → Type 0) where
  -- each seat's view fits its number
  abbrev pub AllFit : List V → Type 0
  AllFit views = (id : ℕ) (v : V) → get_elem? views id ≡ some v → Fits id v

  pub seats_set : (views : List V) (id : ℕ) (w : V) → Fits id w → ((j : ℕ) (v : V) → j ≢ id → get_elem? views j ≡ some v → Fits j v)
      → AllFit (set views id w)
  seats_set views id w own others j v e = ⊎_elim
      (λ h. subst (λ (z : ℕ × V). Fits z.0 z.1) (λ i. (sym h.0 i, h.1 i)) own)
      (λ h. others j v h.0 h.1) (at_set views id j w v e)

  pub seats_more : (views : List V) (w : V) → Fits (length views) w → AllFit views → AllFit (views ++ w ∷ [])
  seats_more views w own others j v e = ⊎_elim (λ h. others j v h)
      (λ h. subst (λ (z : ℕ × V). Fits z.0 z.1) (λ i. (sym h.0 i, h.1 i)) own) (at_end views w v j e)
