-- A property of small numbers that is shown by trying each of them.
use Rattle.std.proofs.Common.{◌≡◌, ℕ, zero, suc, ◌<◌, Bool, true, false, not, ◌&&◌, cond, refl, sym, subst, arith, inl, inr}
use Rattle.std.proofs.lemmas.Bool.{and_parts, cases_lt}

-- each number below has it
abbrev pub all_below : ℕ → (ℕ → Bool) → Bool
all_below zero p = true
all_below (suc n) p = p n && all_below n p

pub all_below-at : (n : ℕ) (p : ℕ → Bool) → all_below n p ≡ true → (i : ℕ) → i < n → p i ≡ true
all_below-at zero p h i lt = absurd (omega arith)
all_below-at (suc n) p h i lt =
    elim (cases_lt i n) [
      | inl below ↦ all_below-at n p ((and_parts (p n) (all_below n p) h).1) i below
      | inr ge ↦ let same : n ≡ i = omega arith in subst (λ (k : ℕ). p k ≡ true) same ((and_parts (p n) (all_below n p) h).0)
    ]

-- two tests that come out the same
abbrev pub same_bool : Bool → Bool → Bool
same_bool b c = cond b c (not c)

pub same_bool-true : (b c : Bool) → same_bool b c ≡ true → b ≡ c
same_bool-true true true h = refl
same_bool-true true false h = sym h
same_bool-true false true h = h
same_bool-true false false h = refl
