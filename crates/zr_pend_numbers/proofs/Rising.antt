-- Numbers that rise, each above the one before it: where a number is among them, which one is missing first, and what a number more or less
-- makes of them.
use Rattle.std.proofs.Common.{◌≡◌, ℕ, zero, suc, ◌+◌, ◌-◌, ◌≤◌, ◌<◌, ◌==◌, ◌&&◌, ◌||◌, nat_le, not, Bool, true, false, List, [], ◌∷◌, ◌++◌, length, take, drop, get_or, Result, Ok, Err, IfOk, IfErr, refl, sym, ap, ◌∙◌, subst, arith}
use Rattle.std.specs.List.{remove}
use Rattle.std.specs.List.Sorted.{IsBinarySearchResult}
use Rattle.std.specs.Ordering.{nat_cmp}
use Rattle.std.proofs.lemmas.Bool.{eqb-true, eqb-false, eq-eqb, false_from_ne_true, leb-true, leb-false, le-leb, and_from, or_from, or_left, or_right}
use Rattle.std.proofs.lemmas.List.Sorted.{searched}
use Rattle.zr_lists.proofs.Parts.{and_left, and_right}
use Rattle.zr_pend_numbers.specs.Numbers.{is_in, rises}

-- ---- how fast they rise

pub at_least : (low : ℕ) (ms : List ℕ) (i : ℕ) → rises low ms ≡ true → i < length ms → low + i ≤ get_or ms i 0
at_least low [] i h lt = absurd (omega arith)
at_least low (m ∷ ms) zero h lt = omega (arith, leb-true low m (and_left _ _ h))
at_least low (m ∷ ms) (suc i) h lt = omega (arith, leb-true low m (and_left _ _ h), at_least (m + 1) ms i (and_right _ _ h) (omega arith))

pub steep : (low : ℕ) (ms : List ℕ) (i j : ℕ) → rises low ms ≡ true → i ≤ j → j < length ms → get_or ms i 0 + j ≤ get_or ms j 0 + i
steep low [] i j h le lt = absurd (omega arith)
steep low (m ∷ ms) zero zero h le lt = omega arith
steep low (m ∷ ms) zero (suc j) h le lt = omega (arith, at_least (m + 1) ms j (and_right _ _ h) (omega arith))
steep low (m ∷ ms) (suc i) zero h le lt = absurd (omega arith)
steep low (m ∷ ms) (suc i) (suc j) h le lt = omega (arith, steep (m + 1) ms i j (and_right _ _ h) (omega arith) (omega arith))

pub rising : (ms : List ℕ) → rises 0 ms ≡ true → (i j : ℕ) → i ≤ j → j < length ms → get_or ms i 0 ≤ get_or ms j 0
rising ms h i j le lt = omega (arith, steep 0 ms i j h le lt)

-- what a search says of them
module _ (ms : List ℕ) (n : ℕ) (h : rises 0 ms ≡ true) where
  pub found_within : (r : Result ℕ ℕ) → IsBinarySearchResult (λ m. nat_cmp m n) ms r → IfOk r (λ i. i < length ms)
  found_within (Ok i) p = (searched ms n (Ok i) p (rising ms h)).0
  found_within (Err i) p = tt

  pub found_here : (r : Result ℕ ℕ) → IsBinarySearchResult (λ m. nat_cmp m n) ms r → IfOk r (λ i. get_or ms i 0 ≡ n)
  found_here (Ok i) p = (searched ms n (Ok i) p (rising ms h)).1
  found_here (Err i) p = tt

  pub gap_within : (r : Result ℕ ℕ) → IsBinarySearchResult (λ m. nat_cmp m n) ms r → IfErr r (λ i. i ≤ length ms)
  gap_within (Ok i) p = tt
  gap_within (Err i) p = (searched ms n (Err i) p (rising ms h)).0

  pub gap_behind : (r : Result ℕ ℕ) → IsBinarySearchResult (λ m. nat_cmp m n) ms r → IfErr r (λ i. (k : ℕ) → k < i → get_or ms k 0 < n)
  gap_behind (Ok i) p = tt
  gap_behind (Err i) p = (searched ms n (Err i) p (rising ms h)).1

  pub gap_before : (r : Result ℕ ℕ) → IsBinarySearchResult (λ m. nat_cmp m n) ms r → IfErr r (λ i. (k : ℕ) → i ≤ k → k < length ms → n < get_or ms k 0)
  gap_before (Ok i) p = tt
  gap_before (Err i) p = (searched ms n (Err i) p (rising ms h)).2

-- ---- whether a number is among them

differ : (m n : ℕ) → (m ≡ n → ⊥) → (m == n) ≡ false
differ m n apart = false_from_ne_true _ (λ t. apart (eqb-true m n t))

in_at : (ms : List ℕ) (i : ℕ) → i < length ms → is_in (get_or ms i 0) ms ≡ true
in_at [] i lt = absurd (omega arith)
in_at (m ∷ ms) zero lt = or_left _ _ (eq-eqb m m refl)
in_at (m ∷ ms) (suc i) lt = or_right _ _ (in_at ms i (omega arith))

pub in_here : (ms : List ℕ) (n i : ℕ) → i < length ms → get_or ms i 0 ≡ n → is_in n ms ≡ true
in_here ms n i lt e = ap (λ z. is_in z ms) (sym e) ∙ in_at ms i lt

pub gap_free : (ms : List ℕ) (n k : ℕ) → ((i : ℕ) → i < k → get_or ms i 0 < n) → ((i : ℕ) → k ≤ i → i < length ms → n < get_or ms i 0) → is_in n ms ≡ false
gap_free [] n k below above = refl
gap_free (m ∷ ms) n zero below above =
    let here : n < m = above 0 (omega arith) (omega arith) in
    or_from _ _ (differ m n (λ e. absurd (omega arith))) (gap_free ms n zero (λ i lt. absurd (omega arith)) (λ i ge lt. above (suc i) (omega arith) (omega arith)))
gap_free (m ∷ ms) n (suc k) below above =
    let here : m < n = below 0 (omega arith) in
    or_from _ _ (differ m n (λ e. absurd (omega arith))) (gap_free ms n k (λ i lt. below (suc i) (omega arith)) (λ i ge lt. above (suc i) (omega arith) (omega arith)))

pub not_in : (low n : ℕ) (ms : List ℕ) → rises low ms ≡ true → n < low → is_in n ms ≡ false
not_in low n [] h lt = refl
not_in low n (m ∷ ms) h lt =
    let le : low ≤ m = leb-true low m (and_left _ _ h) in
    or_from _ _ (differ m n (λ e. absurd (omega arith))) (not_in (m + 1) n ms (and_right _ _ h) (omega arith))

-- ---- the first that is missing

-- where the numbers from 1 on stand from a first place on: those before `from` stand each at its own place, and those from `to` on don't
pub record IsGapAt (ms : List ℕ) (first from to : ℕ) : Type 0 where
  pub own : (i : ℕ) → first ≤ i → i < from → get_or ms i 0 + first ≡ i + 1
  pub higher : (i : ℕ) → to ≤ i → i < length ms → i + 1 < get_or ms i 0 + first

pub gap_at_first : (ms : List ℕ) (first : ℕ) → IsGapAt ms first first (length ms)
gap_at_first ms first = record {
  own = λ i ge lt. absurd (omega arith);
  higher = λ i ge lt. absurd (omega arith);
}

pub gap_above : (ms : List ℕ) (first from to middle : ℕ) → rises 0 ms ≡ true → ((i : ℕ) → first ≤ i → i < length ms → 1 ≤ get_or ms i 0) → first ≤ middle → middle < length ms →
    get_or ms middle 0 + first ≡ middle + 1 → IsGapAt ms first from to → IsGapAt ms first (middle + 1) to
gap_above ms first from to middle h above ge lt e g = record {
  own = λ i f l. omega (arith, above first (omega arith) (omega arith), steep 0 ms first i h f (omega arith), steep 0 ms i middle h (omega arith) lt, e);
  higher = g.higher;
}

pub gap_below : (ms : List ℕ) (first from to middle : ℕ) → rises 0 ms ≡ true → ((i : ℕ) → first ≤ i → i < length ms → 1 ≤ get_or ms i 0) → first ≤ middle → middle < length ms →
    (get_or ms middle 0 + first ≡ middle + 1 → ⊥) → IsGapAt ms first from to → IsGapAt ms first from middle
gap_below ms first from to middle h above ge lt apart g =
    let least : middle + 1 ≤ get_or ms middle 0 + first = omega (arith, above first (omega arith) (omega arith), steep 0 ms first middle h ge lt) in
    let more : middle + 1 < get_or ms middle 0 + first = by (get_or ms middle 0 + first == middle + 1) refl least in
    record {
      own = g.own;
      higher = λ i f l. omega (arith, more, steep 0 ms middle i h f l);
    }
  where
    by : (t : Bool) → (get_or ms middle 0 + first == middle + 1) ≡ t → middle + 1 ≤ get_or ms middle 0 + first → middle + 1 < get_or ms middle 0 + first
    by true e le = absurd (apart (eqb-true _ _ e))
    by false e le = omega (arith, eqb-false _ _ e)

-- half of those that are left are left
pub upper_half : (ms : List ℕ) (first from left half : ℕ) → rises 0 ms ≡ true → ((i : ℕ) → first ≤ i → i < length ms → 1 ≤ get_or ms i 0) → first ≤ from → half < left → from + left ≤ length ms →
    get_or ms (from + half) 0 ≡ from + half - first + 1 → IsGapAt ms first from (from + left) →
    IsGapAt ms first (from + half + 1) (from + half + 1 + (left - (half + 1))) × (first ≤ from + half + 1) × (from + half + 1 + (left - (half + 1)) ≤ length ms)
upper_half ms first from left half h above le lt within e g =
    let end : from + left ≡ from + half + 1 + (left - (half + 1)) = omega arith in (
      subst (λ z. IsGapAt ms first (from + half + 1) z) end (gap_above ms first from (from + left) (from + half) h above (omega arith) (omega arith) (omega (arith, e)) g),
      omega arith,
      omega arith,
    )

pub lower_half : (ms : List ℕ) (first from left half : ℕ) → rises 0 ms ≡ true → ((i : ℕ) → first ≤ i → i < length ms → 1 ≤ get_or ms i 0) → first ≤ from → half < left → from + left ≤ length ms →
    (get_or ms (from + half) 0 ≡ from + half - first + 1 → ⊥) → IsGapAt ms first from (from + left) → IsGapAt ms first from (from + half) × (first ≤ from) × (from + half ≤ length ms)
lower_half ms first from left half h above le lt within apart g =
    (gap_below ms first from (from + left) (from + half) h above (omega arith) (omega arith) (λ e. apart (omega (arith, e))) g, le, omega arith)

pub gap_is_free : (ms : List ℕ) (first from to n : ℕ) → from ≡ to → first ≤ from → n + first ≡ from + 1 → ((i : ℕ) → i < first → get_or ms i 0 < 1) → IsGapAt ms first from to → is_in n ms ≡ false
gap_is_free ms first from to n e le is below g =
    gap_free ms n from (λ i lt. under i lt (nat_le first i) refl) (λ i ge lt. omega (arith, g.higher i (omega arith) lt))
  where
    under : (i : ℕ) → i < from → (t : Bool) → nat_le first i ≡ t → get_or ms i 0 < n
    under i lt true f = omega (arith, g.own i (leb-true first i f) lt)
    under i lt false f = omega (arith, below i (leb-false first i f))

pub all_before : (ms : List ℕ) (first from to n k : ℕ) → from ≤ length ms → n + first ≡ from + 1 → 1 ≤ k → k < n → IsGapAt ms first from to → is_in k ms ≡ true
all_before ms first from to n zero le is up lt g = absurd (omega arith)
all_before ms first from to n (suc k) le is up lt g = in_here ms (suc k) (k + first) (omega arith) (omega (arith, g.own (k + first) (omega arith) (omega arith)))

-- ---- one more

pub put_rises : (low : ℕ) (ms : List ℕ) (n k : ℕ) → rises low ms ≡ true → low ≤ n → k ≤ length ms → ((i : ℕ) → i < k → get_or ms i 0 < n) → ((i : ℕ) → k ≤ i → i < length ms → n < get_or ms i 0) →
    rises low (take k ms ++ n ∷ drop k ms) ≡ true
put_rises low [] n zero h up le below above = and_from _ _ (le-leb low n up) refl
put_rises low [] n (suc k) h up le below above = absurd (omega arith)
put_rises low (m ∷ ms) n zero h up le below above =
    let here : n < m = above 0 (omega arith) (omega arith) in
    and_from _ _ (le-leb low n up) (and_from _ _ (le-leb (n + 1) m (omega arith)) (and_right _ _ h))
put_rises low (m ∷ ms) n (suc k) h up le below above =
    let here : m < n = below 0 (omega arith) in
    and_from _ _ (and_left _ _ h)
    (put_rises (m + 1) ms n k (and_right _ _ h) (omega arith) (omega arith) (λ i lt. below (suc i) (omega arith)) (λ i ge lt. above (suc i) (omega arith) (omega arith)))

pub put_in : (ms : List ℕ) (n k j : ℕ) → is_in j (take k ms ++ n ∷ drop k ms) ≡ (n == j || is_in j ms)
put_in [] n zero j = refl
put_in [] n (suc k) j = refl
put_in (m ∷ ms) n zero j = refl
put_in (m ∷ ms) n (suc k) j = ap (λ t. m == j || t) (put_in ms n k j) ∙ swap (m == j) (n == j)
  where
    swap : (s t : Bool) → (s || (t || is_in j ms)) ≡ (t || (s || is_in j ms))
    swap true true = refl
    swap true false = refl
    swap false t = refl

pub put_again : (ms : List ℕ) (n j : ℕ) → is_in n ms ≡ true → is_in j ms ≡ (n == j || is_in j ms)
put_again ms n j h = by (n == j) refl
  where
    by : (t : Bool) → (n == j) ≡ t → is_in j ms ≡ (t || is_in j ms)
    by true e = ap (λ z. is_in z ms) (sym (eqb-true n j e)) ∙ h
    by false e = refl

-- ---- one less

pub lower : (low m : ℕ) (ms : List ℕ) → low ≤ m → rises m ms ≡ true → rises low ms ≡ true
lower low m [] le h = refl
lower low m (n ∷ ns) le h = and_from _ _ (le-leb low n (omega (arith, leb-true m n (and_left _ _ h)))) (and_right _ _ h)

pub take_rises : (low : ℕ) (ms : List ℕ) (k : ℕ) → rises low ms ≡ true → rises low (remove ms k) ≡ true
take_rises low [] zero h = refl
take_rises low [] (suc k) h = refl
take_rises low (m ∷ ms) zero h = lower low (m + 1) ms (omega (arith, leb-true low m (and_left _ _ h))) (and_right _ _ h)
take_rises low (m ∷ ms) (suc k) h = and_from _ _ (and_left _ _ h) (take_rises (m + 1) ms k (and_right _ _ h))

pub take_in : (low : ℕ) (ms : List ℕ) (n k j : ℕ) → rises low ms ≡ true → k < length ms → get_or ms k 0 ≡ n → is_in j (remove ms k) ≡ (not (n == j) && is_in j ms)
take_in low [] n k j h lt e = absurd (omega arith)
take_in low (m ∷ ms) n zero j h lt e = by (n == j) refl
  where
    by : (t : Bool) → (n == j) ≡ t → is_in j ms ≡ (not t && (m == j || is_in j ms))
    by true q = not_in (m + 1) j ms (and_right _ _ h) (omega (arith, eqb-true n j q))
    by false q = ap (λ t. t || is_in j ms) (sym (differ m j (λ r. absurd (omega (arith, eqb-false n j q)))))
take_in low (m ∷ ms) n (suc k) j h lt e = ap (λ t. m == j || t) (take_in (m + 1) ms n k j (and_right _ _ h) (omega arith) e) ∙ by (n == j) refl
  where
    by : (t : Bool) → (n == j) ≡ t → (m == j || (not t && is_in j ms)) ≡ (not t && (m == j || is_in j ms))
    by true q = or_from _ _ (differ m j (λ r. absurd (omega (arith, eqb-true n j q, at_least (m + 1) ms k (and_right _ _ h) (omega arith), e)))) refl
    by false q = refl

pub take_none : (ms : List ℕ) (n j : ℕ) → is_in n ms ≡ false → is_in j ms ≡ (not (n == j) && is_in j ms)
take_none ms n j h = by (n == j) refl
  where
    by : (t : Bool) → (n == j) ≡ t → is_in j ms ≡ (not t && is_in j ms)
    by true q = ap (λ z. is_in z ms) (sym (eqb-true n j q)) ∙ h
    by false q = refl
