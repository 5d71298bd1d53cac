-- The first pair that passes a test, and the pairs without it.
use Rattle.std.proofs.Common.{◌≡◌, ℕ, suc, ◌+◌, ◌||◌, not, Bool, true, false, cond, List, [], ◌∷◌, length, nat_lt, Some, None, refl, sym, ap, ◌∙◌, arith}
use Rattle.std.specs.List.{list_any, position, position_or_len, remove}
use Rattle.std.specs.Set.{remove_key}
use Rattle.std.proofs.Math.Dec.{leb-suc-suc}
use Rattle.std.proofs.lemmas.Bool.{false≢true, lt-ltb}
use Rattle.std.proofs.lemmas.Option.{none-some, same_Some}

one_more : (n : ℕ) → 1 + n ≡ suc n
one_more n = omega arith

module _ {X : Type 0} (test : X → Bool) where
  is_within : (xs : List X) → nat_lt (position_or_len test xs) (length xs) ≡ list_any test xs
  is_within [] = refl
  is_within (x ∷ xs) = by (test x) (is_within xs)
    where
      by : (b : Bool) → nat_lt (position_or_len test xs) (length xs) ≡ list_any test xs → nat_lt (cond (not b) (1 + position_or_len test xs) 0) (suc (length xs)) ≡ (b || list_any test xs)
      by true ih = lt-ltb 0 (suc (length xs)) (omega arith)
      by false ih = ap (λ z. nat_lt z (suc (length xs))) (one_more (position_or_len test xs)) ∙ leb-suc-suc (suc (position_or_len test xs)) (length xs) ∙ ih

  without_found : (xs : List X) → list_any test xs ≡ true → remove xs (position_or_len test xs) ≡ remove_key test xs
  without_found [] h = absurd (false≢true h)
  without_found (x ∷ xs) h = by (test x) (without_found xs) h
    where
      by : (b : Bool) → (list_any test xs ≡ true → remove xs (position_or_len test xs) ≡ remove_key test xs) → (b || list_any test xs) ≡ true →
          remove (x ∷ xs) (cond (not b) (1 + position_or_len test xs) 0) ≡ cond b xs (x ∷ remove_key test xs)
      by true ih k = refl
      by false ih k = ap (remove (x ∷ xs)) (one_more (position_or_len test xs)) ∙ ap (λ z. x ∷ z) (ih k)

  without_none : (xs : List X) → list_any test xs ≡ false → remove_key test xs ≡ xs
  without_none [] h = refl
  without_none (x ∷ xs) h = by (test x) (without_none xs) h
    where
      by : (b : Bool) → (list_any test xs ≡ false → remove_key test xs ≡ xs) → (b || list_any test xs) ≡ false → cond b xs (x ∷ remove_key test xs) ≡ x ∷ xs
      by true ih k = absurd (false≢true (sym k))
      by false ih k = ap (λ z. x ∷ z) (ih k)

  pub record IsGone (xs : List X) (i : ℕ) : Type 0 where
    pub was : list_any test xs ≡ true
    pub now : remove xs i ≡ remove_key test xs

  pub gone : (xs : List X) (i : ℕ) → position test xs ≡ Some i → IsGone xs i
  gone xs i h = by (list_any test xs) refl (ap (λ b. cond b (Some (position_or_len test xs)) None) (sym (is_within xs)) ∙ h)
    where
      by : (b : Bool) → list_any test xs ≡ b → cond b (Some (position_or_len test xs)) None ≡ Some i → IsGone xs i
      by true e k = record { was = e; now = ap (remove xs) (sym (same_Some _ i k)) ∙ without_found xs e }
      by false e k = absurd (none-some i k)

  pub record IsMissing (xs : List X) : Type 0 where
    pub was : list_any test xs ≡ false
    pub now : remove_key test xs ≡ xs

  pub missing : (xs : List X) → position test xs ≡ None → IsMissing xs
  missing xs h = by (list_any test xs) refl (ap (λ b. cond b (Some (position_or_len test xs)) None) (sym (is_within xs)) ∙ h)
    where
      by : (b : Bool) → list_any test xs ≡ b → cond b (Some (position_or_len test xs)) None ≡ None → IsMissing xs
      by true e k = absurd (none-some (position_or_len test xs) (sym k))
      by false e k = record { was = e; now = without_none xs e }
