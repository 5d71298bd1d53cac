-- Tests of numbers, and searches among them.
use Rattle.std.proofs.Common.{◌≡◌, ◌≢◌, ℕ, ◌+◌, ◌-◌, ◌*◌, ◌<◌, ◌≤◌, ◌==◌, ◌⊎◌, zero, suc, Bool, true, false, cond, List, [], ◌∷◌, Some, None, is_some, Less, eq-eqb, inl, inr, refl, ap, ◌∙◌, arith, nat_lt, Equal, Greater}
use Rattle.std.specs.List.{find, fold, range_with_len}
use Rattle.std.specs.Ordering.{is_eq, nat_cmp, is_lt}
use Rattle.std.proofs.lemmas.Bool.{true≢false, cases_eq}

pub same_number : (n : ℕ) → (n == n) ≡ true
same_number n = eq-eqb n n refl

pub turned : (a b : ℕ) → (a == b) ≡ false → (b == a) ≡ false
turned a b h = grind (arith, h)

pub nat_eq_is : (a b : ℕ) → is_eq (nat_cmp a b) ≡ (a == b)
nat_eq_is a b = grind arith

pub nat_eq_turned : (a b : ℕ) → is_eq (nat_cmp a b) ≡ (b == a)
nat_eq_turned a b = grind arith

-- what is above a number is another one
pub above_differs : (a b : ℕ) → nat_cmp a b ≡ Less → (b == a) ≡ false
above_differs a b h = grind (arith, h)

-- further digits never make a number less
pub fold_grows : (n : ℕ) (digits : List ℕ) → n ≤ fold (λ n b. n * 10 + (b - 48)) n digits
fold_grows n [] = omega arith
fold_grows n (b ∷ more) = omega (arith, fold_grows (n * 10 + (b - 48)) more)

-- among so many numbers one is found that passes a test, or none does
pub range_fails : (p : ℕ → Bool) (a n : ℕ) → find p (range_with_len a n) ≡ None → (q : ℕ) → a ≤ q → q < a + n → p q ≡ false
range_fails p a zero h q le lt = absurd (omega arith)
range_fails p a (suc n) h q le lt = by (p a) refl h (range_fails p (a + 1) n)
  where
    by : (b : Bool) → p a ≡ b → cond b (Some a) (find p (range_with_len (a + 1) n)) ≡ None →
        (find p (range_with_len (a + 1) n) ≡ None → (q : ℕ) → a + 1 ≤ q → q < (a + 1) + n → p q ≡ false) → p q ≡ false
    by true e none ih = absurd (true≢false (ap is_some none))
    by false e none ih = at (cases_eq q a)
      where
        at : (q ≡ a) ⊎ (q ≢ a) → p q ≡ false
        at (inl same) = ap p same ∙ e
        at (inr other) = ih none q (omega arith) (omega arith)

pub nat_lt_is : (a b : ℕ) → is_lt (nat_cmp a b) ≡ nat_lt a b
nat_lt_is a b = by (nat_lt a b) (a == b)
  where
    by : (s t : Bool) → is_lt (cond s Less (cond t Equal Greater)) ≡ s
    by true t = refl
    by false true = refl
    by false false = refl
