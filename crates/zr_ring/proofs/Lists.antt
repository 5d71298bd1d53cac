-- Lists, and places that lie in one slot.
use Rattle.std.proofs.Common.{◌≡◌, ◌≢◌, ℕ, zero, suc, ◌+◌, ◌%◌, ◌<◌, ◌≤◌, List, [], ◌∷◌, ◌++◌, length, take, refl, ap, sym, arith}
use mathlib.Core.Option.{some, some-injective, some-ne-none}
use lib.ListN.{get_elem?}
use Rattle.atomic_table.proofs.Lists.{one_turn}

-- two places less than cap apart lie in two slots
pub apart : (t k cap : ℕ) → t < k → k < t + cap → k % cap ≢ t % cap
apart t k cap lt near e = let same = one_turn t k cap (omega arith) near (sym e) in absurd (omega arith)

module _ {A : Type 0} where
  pub there : (l : List A) (i : ℕ) → i < length l → (a : A) × (get_elem? l i ≡ some a)
  there [] i h = absurd (omega arith)
  there (x ∷ xs) zero h = (x, refl)
  there (x ∷ xs) (suc i) h = there xs i (omega arith)

  pub take_one_more : (l : List A) (i : ℕ) (a : A) → get_elem? l i ≡ some a → take (suc i) l ≡ take i l ++ a ∷ []
  take_one_more [] i a e = absurd (some-ne-none a (sym e))
  take_one_more (x ∷ xs) zero a e = ap (λ z. z ∷ []) (some-injective x a e)
  take_one_more (x ∷ xs) (suc i) a e = ap (λ z. x ∷ z) (take_one_more xs i a e)

  pub take_front : (n : ℕ) (l m : List A) → n ≤ length l → take n (l ++ m) ≡ take n l
  take_front zero l m le = refl
  take_front (suc n) [] m le = absurd (omega arith)
  take_front (suc n) (x ∷ xs) m le = ap (λ z. x ∷ z) (take_front n xs m (omega arith))

  pub take_length : (n : ℕ) (l : List A) → n ≤ length l → length (take n l) ≡ n
  take_length zero l le = refl
  take_length (suc n) [] le = absurd (omega arith)
  take_length (suc n) (x ∷ xs) le = ap suc (take_length n xs (omega arith))
