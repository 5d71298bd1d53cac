-- Where something stands under a key in a list in ascending order, or would stand.
use Rattle.std.specs.Prelude.{◌≡◌, ℕ, ◌+◌, ◌<◌, ◌≤◌, List, ◌++◌, Result, None, MatchResult, length, take, drop, slice_get}
use Rattle.std.specs.declared.cmp.Ordering.{Ordering}
use Rattle.std.specs.List.{HoldsAt}
use Rattle.zr_lists.specs.Ascending.{at_key, before_key, behind_key, without}

-- it stands at this place, between what is before it and what is behind it
pub record IsAt {X K : Type 0} (cmp : K → K → Ordering) (key : X → K) (xs : List X) (k : K) (at : ℕ) : Type 0 where
  pub within : at < length xs
  pub key_is : HoldsAt (λ x. key x ≡ k) xs at
  pub found : at_key cmp key xs k ≡ slice_get xs at
  pub before : before_key cmp key xs k ≡ take at xs
  pub behind : behind_key cmp key xs k ≡ drop (at + 1) xs
  pub others : without cmp key xs k ≡ take at xs ++ drop (at + 1) xs

-- nothing stands under the key, and at this place one comes behind what is before it and before the others
pub record IsGap {X K : Type 0} (cmp : K → K → Ordering) (key : X → K) (xs : List X) (k : K) (at : ℕ) : Type 0 where
  pub within : at ≤ length xs
  pub absent : at_key cmp key xs k ≡ None
  pub before : before_key cmp key xs k ≡ take at xs
  pub behind : behind_key cmp key xs k ≡ drop at xs
  pub others : without cmp key xs k ≡ xs

-- what a search for the key answers
abbrev pub IsPlace : {X K : Type 0} → (K → K → Ordering) → (X → K) → List X → K → Result ℕ ℕ → Type 0
IsPlace cmp key xs k r = MatchResult r (IsAt cmp key xs k) (IsGap cmp key xs k)
