-- Where a list is cut: `slice_split` by the place of the first element that passes the test.
use Rattle.std.proofs.Common.{◌≡◌, ℕ, ◌+◌, ◌<◌, ◌≤◌, Bool, true, false, cond, suc, List, [], ◌∷◌, length, take, drop, nat_lt, Option, Some, None, refl, sym, ap, ◌∙◌, arith}
use Rattle.std.specs.List.{slice_split, position, position_or_len}
use Rattle.std.proofs.lemmas.List.Sums.{position_or_len_is, fails_before_first}
use Rattle.std.proofs.lemmas.Bool.Decides.{nat_tests}
use Rattle.std.proofs.lemmas.List.Quantifiers.{position-Some}
use Rattle.std.proofs.lemmas.List.Splits.{slice_split_first, slice_split_none}
use Rattle.std.proofs.lemmas.List.{get_or-take, length-take}
use Rattle.std.proofs.lemmas.List.Elements.{All-from_get_or}

-- at the first place that passes, the list is what is before it and the parts of what is behind it
pub cut_some : {X : Type 0} (p : X → Bool) (xs : List X) (i : ℕ) (d : X) → position p xs ≡ Some i →
    slice_split p xs ≡ take i xs ∷ slice_split p (drop (i + 1) xs)
cut_some p xs i d found =
    let at = position-Some p xs i d found in
    let le : i < length xs = at.0 in
    let e : position_or_len p xs ≡ i = position_or_len_is p xs i d (omega arith) at.2 (λ _. at.1) in
    let short : position_or_len p xs < length xs = rw e le in
    rw e at (slice_split_first p xs d short)

-- where no place passes, every element fails the test
fails_all : {X : Type 0} (p : X → Bool) (xs : List X) (d : X) → position p xs ≡ None → length xs ≤ position_or_len p xs
fails_all p xs d none = by (nat_lt (position_or_len p xs) (length xs)) refl none
  where
    by : (b : Bool) → nat_lt (position_or_len p xs) (length xs) ≡ b → cond b (Some (position_or_len p xs)) None ≡ None → length xs ≤ position_or_len p xs
    by true e h = cc
    by false e h = grind (arith, nat_tests)

-- then the list is one part
pub none_cut : {X : Type 0} (p : X → Bool) (xs : List X) (d : X) → position p xs ≡ None → slice_split p xs ≡ xs ∷ []
none_cut p xs d none =
    let long : length xs ≤ position_or_len p xs = fails_all p xs d none in
    slice_split_none p xs (All-from_get_or (λ x. p x ≡ false) xs d (λ i lt. fails_before_first p xs i d (omega arith)))

-- what is before the first place that passes is one part
pub open_front : {X : Type 0} (p : X → Bool) (xs : List X) (i : ℕ) (d : X) → position p xs ≡ Some i → slice_split p (take i xs) ≡ take i xs ∷ []
open_front p xs i d found =
    let at = position-Some p xs i d found in
    slice_split_none p (take i xs)
    (All-from_get_or (λ x. p x ≡ false) (take i xs) d (λ k lt.
    let below : k < i = omega (arith, length-take i xs) in
    ap p (get_or-take i xs k d below) ∙ at.2 k below))
