-- A search in an ascending list finds the place of a key, by recursion over the list.
use Rattle.std.proofs.Common.{◌≡◌, ℕ, ◌+◌, ◌<◌, ◌≤◌, zero, suc, List, [], ◌∷◌, true, false, not, Ordering, Less, Equal, Greater, None, Result, Ok, Err, length, get_or, refl, ap, subst, arith}
use Rattle.std.specs.List.{AllByRecursion, AllWithin, HoldsAt}
use Rattle.std.specs.List.Sorted.{IsNonDecreasingBy, IsBinarySearchResult, IsSearchInRange}
use Rattle.std.specs.Ordering.{ordering_index, is_eq, is_lt}
use Rattle.std.proofs.lemmas.List.Sorted.{searchable_from_sorted}
use Rattle.std.proofs.lemmas.Map.Keys.{sorted_head, sorted_tail, Less-from_sorted}
use Rattle.zr_lists.specs.Ascending.{IsAscending, at_key, before_key, behind_key, without}
use Rattle.zr_lists.specs.Place.{IsAt, IsGap, IsPlace}
use Rattle.zr_lists.proofs.Each.{All-each}
use Rattle.zr_lists.proofs.Filters.{filter_all, filter_none, find_none}
use Rattle.zr_lists.proofs.Order.{IsExactOrder, Comes, comes, comes_back, is_itself, not_before_itself}

module _ {X K : Type 0} (cmp : K → K → Ordering) (key : X → K) (o : IsExactOrder cmp) where
  -- all of the list comes after a key
  abbrev pub AllAfter : K → List X → Type 0
  AllAfter k xs = AllByRecursion (λ x. cmp k (key x) ≡ Less) xs

  pub none_before : (k : K) (xs : List X) → AllAfter k xs → before_key cmp key xs k ≡ []
  none_before k xs h = filter_none _ xs (All-each _ (λ x. is_lt (cmp (key x) k) ≡ false) xs (λ x l. (comes cmp o k (key x) l).not_after) h)

  pub all_behind : (k : K) (xs : List X) → AllAfter k xs → behind_key cmp key xs k ≡ xs
  all_behind k xs h = filter_all _ xs (All-each _ (λ x. is_lt (cmp k (key x)) ≡ true) xs (λ x l. (comes cmp o k (key x) l).before) h)

  pub none_same : (k : K) (xs : List X) → AllAfter k xs → at_key cmp key xs k ≡ None
  none_same k xs h = find_none _ xs (All-each _ (λ x. is_eq (cmp (key x) k) ≡ false) xs (λ x l. (comes cmp o k (key x) l).apart_back) h)

  all_others : (k : K) (xs : List X) → AllAfter k xs → without cmp key xs k ≡ xs
  all_others k xs h = filter_all _ xs (All-each _ (λ x. not (is_eq (cmp (key x) k)) ≡ true) xs (λ x l. ap not (comes cmp o k (key x) l).apart_back) h)

  -- all from the first on come after
  after_from_places : (k : K) (xs : List X) → AllWithin (λ x. cmp (key x) k ≡ Greater) xs 0 (length xs) → AllAfter k xs
  after_from_places k [] h = tt
  after_from_places k (x ∷ xs) h = (
    (comes_back cmp o (key x) k (h 0 x (omega arith) (omega arith))).less,
    after_from_places k xs (λ n d a b. h (suc n) d (omega arith) (omega arith)),
  )

  -- the first comes before that of a later place
  before_later : (x : X) (xs : List X) (k : K) (i : ℕ) → IsAscending cmp key (x ∷ xs) → i < length xs → HoldsAt (λ y. cmp (key y) k ≡ Equal) xs i → Comes cmp (key x) k
  before_later x xs k i up lt at =
      let e : key (get_or xs i x) ≡ k = o.exact _ k (at x) in
      let l = Less-from_sorted (λ (y z : X). cmp (key y) (key z)) (x ∷ xs) 0 (suc i) x up (omega arith) (omega arith) in
      comes cmp o (key x) k (subst (λ (z : K). cmp (key x) z ≡ Less) e l)

  -- what comes before the key doesn't move the place
  at_next : (x : X) (xs : List X) (k : K) (i : ℕ) → Comes cmp (key x) k → IsAt cmp key xs k i → IsAt cmp key (x ∷ xs) k (suc i)
  at_next x xs k i c h =
      let e : suc i + 1 ≡ suc (i + 1) = omega arith in
      record {
        within = omega (arith, h.within);
        key_is = λ d. h.key_is d;
        found = rw c.apart h.found;
        before = rw c.before (ap (λ ys. x ∷ ys) h.before);
        behind = rw (c.not_after, e) h.behind;
        others = rw (c.apart, e) (ap (λ ys. x ∷ ys) h.others);
      }

  pub at_place : (xs : List X) (k : K) (i : ℕ) → IsAscending cmp key xs → i < length xs → HoldsAt (λ x. cmp (key x) k ≡ Equal) xs i → IsAt cmp key xs k i
  at_place [] k i up lt at = absurd (omega arith)
  at_place (x ∷ xs) k zero up lt at =
      let e : key x ≡ k = o.exact (key x) k (at x) in
      let rest : AllAfter k xs = subst (λ (z : K). AllAfter z xs) e (sorted_head (λ (y z : X). cmp (key y) (key z)) x xs up) in
      let s : is_eq (cmp (key x) k) ≡ true = rw e (is_itself cmp o k) in
      let b : is_lt (cmp (key x) k) ≡ false = rw e (not_before_itself cmp o k) in
      let a : is_lt (cmp k (key x)) ≡ false = rw e (not_before_itself cmp o k) in
      record {
        within = omega arith;
        key_is = λ d. e;
        found = rw s refl;
        before = rw b (none_before k xs rest);
        behind = rw a (all_behind k xs rest);
        others = rw s (all_others k xs rest);
      }
  at_place (x ∷ xs) k (suc i) up lt at =
      at_next x xs k i (before_later x xs k i up (omega arith) at) (at_place xs k i (sorted_tail (λ (y z : X). cmp (key y) (key z)) x xs up) (omega arith) at)

  gap_next : (x : X) (xs : List X) (k : K) (i : ℕ) → Comes cmp (key x) k → IsGap cmp key xs k i → IsGap cmp key (x ∷ xs) k (suc i)
  gap_next x xs k i c h = record {
    within = omega (arith, h.within);
    absent = rw c.apart h.absent;
    before = rw c.before (ap (λ ys. x ∷ ys) h.before);
    behind = rw c.not_after h.behind;
    others = rw c.apart (ap (λ ys. x ∷ ys) h.others);
  }

  pub gap_place : (xs : List X) (k : K) (i : ℕ) → i ≤ length xs → AllWithin (λ x. cmp (key x) k ≡ Less) xs 0 i → AllWithin (λ x. cmp (key x) k ≡ Greater) xs i (length xs) → IsGap cmp key xs k i
  gap_place xs k zero le below above =
      let rest = after_from_places k xs above in
      record { within = le; absent = none_same k xs rest; before = none_before k xs rest; behind = all_behind k xs rest; others = all_others k xs rest }
  gap_place [] k (suc i) le below above = absurd (omega arith)
  gap_place (x ∷ xs) k (suc i) le below above =
      gap_next x xs k i (comes cmp o (key x) k (below 0 x (omega arith) (omega arith)))
      (gap_place xs k i (omega arith) (λ n d a b. below (suc n) d (omega arith) (omega arith)) (λ n d a b. above (suc n) d (omega arith) (omega arith)))

  -- what the comparisons with one key answer never falls along the list
  rising : (xs : List X) (k : K) → IsAscending cmp key xs → IsNonDecreasingBy (λ x. ordering_index (cmp (key x) k)) xs
  rising xs k up =
      searchable_from_sorted o.total key xs k (λ n d a b.
      (comes cmp o (key (get_or xs n d)) (key (get_or xs (n + 1) d)) (Less-from_sorted (λ (y z : X). cmp (key y) (key z)) xs n (n + 1) d up (omega arith) b)).not_after)

  -- what a binary search answers is the place
  pub found_place : (xs : List X) (k : K) (r : Result ℕ ℕ) → IsAscending cmp key xs → IsSearchInRange r (length xs) → IsBinarySearchResult (λ x. cmp (key x) k) xs r → IsPlace cmp key xs k r
  found_place xs k (Ok i) up lt h = at_place xs k i up lt h
  found_place xs k (Err i) up le h =
      let split = h (rising xs k up) in
      gap_place xs k i le split.0 split.1
