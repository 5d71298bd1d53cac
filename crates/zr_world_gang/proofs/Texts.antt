-- The last of some texts.
use Rattle.std.proofs.Common.{◌≡◌, ℕ, zero, suc, ◌+◌, ◌-◌, Some, None, List, [], ◌∷◌, length, refl, arith}
use Rattle.std.specs.Prelude.{slice_get}
use Rattle.zr_world_gang.specs.Shares.{last_behind}

last_at : (ts : List (List ℕ)) (k : ℕ) (last t : List ℕ) → length ts ≡ k + 1 → Some t ≡ slice_get ts k → t ≡ last_behind last ts
last_at [] k last t long h = absurd (omega (arith, long))
last_at (x ∷ []) zero last t long h = cc
last_at (x ∷ []) (suc k) last t long h = absurd (omega (arith, long))
last_at (x ∷ y ∷ ts) zero last t long h = absurd (omega (arith, long))
last_at (x ∷ y ∷ ts) (suc k) last t long h = last_at (y ∷ ts) k x t (omega (arith, long)) h

pub last_text : (ts : List (List ℕ)) (last t : List ℕ) → Some t ≡ slice_get ts (length ts - 1) → t ≡ last_behind last ts
last_text [] last t h = absurd (cc)
last_text (x ∷ ts) last t h = last_at (x ∷ ts) (length (x ∷ ts) - 1) last t (omega arith) h

none_at : (ts : List (List ℕ)) (k : ℕ) → length ts ≡ k + 1 → None ≡ slice_get ts k → ⊥
none_at [] k long h = omega (arith, long)
none_at (x ∷ ts) zero long h = cc
none_at (x ∷ []) (suc k) long h = omega (arith, long)
none_at (x ∷ y ∷ ts) (suc k) long h = none_at (y ∷ ts) k (omega (arith, long)) h

pub no_text : (ts : List (List ℕ)) (last : List ℕ) → None ≡ slice_get ts (length ts - 1) → last ≡ last_behind last ts
no_text [] last h = refl
no_text (x ∷ ts) last h = absurd (none_at (x ∷ ts) (length (x ∷ ts) - 1) (omega arith) h)
