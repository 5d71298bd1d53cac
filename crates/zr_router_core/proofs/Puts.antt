-- What a test finds in an ascending list, and how long it is, once one is put in or taken out.
use Rattle.std.proofs.Common.{◌≡◌, ◌+◌, ◌≤◌, suc, Bool, true, false, cond, not, ◌||◌, List, [], ◌∷◌, Ordering, Less, Equal, Greater, Some, length, length-append, refl, sym, ap, ◌∙◌, arith}
use Rattle.std.specs.List.{AllByRecursion, list_any}
use Rattle.std.specs.Option.{option_map_or}
use Rattle.std.specs.Ordering.{is_eq, is_lt}
use Rattle.std.proofs.lemmas.List.Folds.{list_any-append}
use Rattle.std.proofs.lemmas.Map.Keys.{sorted_head, sorted_tail}
use Rattle.zr_lists.proofs.Truths.{or_swap}
use Rattle.zr_lists.specs.Ascending.{IsAscending, at_key, before_key, behind_key, put, without}
use Rattle.zr_lists.proofs.Order.{IsExactOrder, comes, comes_back, is_same, not_before_itself}

-- `x` is found in the first part, in the second, or in none
first_has : (x a b w : Bool) → w ≡ (a || b) → (x || w) ≡ ((x || a) || b)
first_has true a b w e = refl
first_has false a b w e = e

second_has : (x a b w : Bool) → w ≡ (a || b) → (x || w) ≡ (a || (x || b))
second_has true true b w e = refl
second_has true false b w e = refl
second_has false a b w e = e

module _ {X K : Type 0} (cmp : K → K → Ordering) (key : X → K) (o : IsExactOrder cmp) (f : X → Bool) where
  -- all but what stands under a key stands before it or behind it
  sides_have : (k : K) (xs : List X) → list_any f (without cmp key xs k) ≡ (list_any f (before_key cmp key xs k) || list_any f (behind_key cmp key xs k))
  sides_have k [] = refl
  sides_have k (x ∷ xs) = by_order (cmp (key x) k) refl (sides_have k xs)
    where
      by_order : (r : Ordering) → cmp (key x) k ≡ r → list_any f (without cmp key xs k) ≡ (list_any f (before_key cmp key xs k) || list_any f (behind_key cmp key xs k)) →
          list_any f (cond (not (is_eq (cmp (key x) k))) (x ∷ without cmp key xs k) (without cmp key xs k))
          ≡ (list_any f (cond (is_lt (cmp (key x) k)) (x ∷ before_key cmp key xs k) (before_key cmp key xs k)) || list_any f (cond (is_lt (cmp k (key x))) (x ∷ behind_key cmp key xs k) (behind_key cmp key xs k)))
      by_order Less e ih =
          let c = comes cmp o (key x) k e in
          rw (c.before, c.not_after, c.apart) (first_has (f x) (list_any f (before_key cmp key xs k)) (list_any f (behind_key cmp key xs k)) (list_any f (without cmp key xs k)) ih)
      by_order Equal e ih =
          let before : is_lt (cmp (key x) k) ≡ false = ap is_lt e in
          let behind : is_lt (cmp k (key x)) ≡ false = ap (λ (z : K). is_lt (cmp z (key x))) (sym (o.exact (key x) k e)) ∙ not_before_itself cmp o (key x) in
          let here : is_eq (cmp (key x) k) ≡ true = ap is_eq e in
          rw (before, behind, here) ih
      by_order Greater e ih =
          let c = comes_back cmp o (key x) k e in
          rw (c.before, c.not_after, c.apart_back) (second_has (f x) (list_any f (before_key cmp key xs k)) (list_any f (behind_key cmp key xs k)) (list_any f (without cmp key xs k)) ih)

  -- once one is put in, the test finds it or what it finds among the others
  pub any_put : (xs : List X) (x : X) → list_any f (put cmp key xs x) ≡ (f x || list_any f (without cmp key xs (key x)))
  any_put xs x =
      list_any-append f (before_key cmp key xs (key x)) (x ∷ behind_key cmp key xs (key x))
      ∙ or_swap (list_any f (before_key cmp key xs (key x))) (f x) (list_any f (behind_key cmp key xs (key x)))
      ∙ ap (λ z. f x || z) (sym (sides_have (key x) xs))

  -- who stands behind one is not taken out with it
  behind_stays : (x : X) (k : K) (xs : List X) → key x ≡ k → AllByRecursion (λ y. cmp (key x) (key y) ≡ Less) xs → without cmp key xs k ≡ xs
  behind_stays x k [] e h = refl
  behind_stays x k (y ∷ ys) e h =
      let c = comes cmp o (key x) (key y) h.0 in
      let apart : is_eq (cmp (key y) k) ≡ false = ap (λ (z : K). is_eq (cmp (key y) z)) (sym e) ∙ c.apart_back in
      rw apart (ap (λ zs. y ∷ zs) (behind_stays x k ys e h.1))

  -- the test finds what stands under a key, or what it finds among the others
  pub any_at : (k : K) (xs : List X) → IsAscending cmp key xs → list_any f xs ≡ (option_map_or f (at_key cmp key xs k) false || list_any f (without cmp key xs k))
  any_at k [] up = refl
  any_at k (x ∷ xs) up = by_test (is_eq (cmp (key x) k)) refl (any_at k xs (sorted_tail _ x xs up))
    where
      by_test : (t : Bool) → is_eq (cmp (key x) k) ≡ t → list_any f xs ≡ (option_map_or f (at_key cmp key xs k) false || list_any f (without cmp key xs k)) →
          (f x || list_any f xs) ≡ (option_map_or f (cond t (Some x) (at_key cmp key xs k)) false || list_any f (cond (not t) (x ∷ without cmp key xs k) (without cmp key xs k)))
      by_test true e ih = ap (λ (ys : List X). f x || list_any f ys) (sym (behind_stays x k xs (is_same cmp o (key x) k e) (sorted_head _ x xs up)))
      by_test false e ih = second_has (f x) (option_map_or f (at_key cmp key xs k) false) (list_any f (without cmp key xs k)) (list_any f xs) ih

-- ---- how long

module _ {X K : Type 0} (cmp : K → K → Ordering) (key : X → K) (o : IsExactOrder cmp) where
  pub sides_long : (k : K) (xs : List X) → length (before_key cmp key xs k) + length (behind_key cmp key xs k) ≤ length xs
  sides_long k [] = omega arith
  sides_long k (x ∷ xs) = by_order (cmp (key x) k) refl (sides_long k xs)
    where
      by_order : (r : Ordering) → cmp (key x) k ≡ r → length (before_key cmp key xs k) + length (behind_key cmp key xs k) ≤ length xs →
          length (cond (is_lt (cmp (key x) k)) (x ∷ before_key cmp key xs k) (before_key cmp key xs k)) + length (cond (is_lt (cmp k (key x))) (x ∷ behind_key cmp key xs k) (behind_key cmp key xs k)) ≤ suc (length xs)
      by_order Less e ih =
          let c = comes cmp o (key x) k e in
          rw (c.before, c.not_after) (omega arith)
      by_order Equal e ih =
          let before : is_lt (cmp (key x) k) ≡ false = ap is_lt e in
          let behind : is_lt (cmp k (key x)) ≡ false = ap (λ (z : K). is_lt (cmp z (key x))) (sym (o.exact (key x) k e)) ∙ not_before_itself cmp o (key x) in
          rw (before, behind) (omega arith)
      by_order Greater e ih =
          let c = comes_back cmp o (key x) k e in
          rw (c.before, c.not_after) (omega arith)

  pub put_long : (xs : List X) (x : X) → length (put cmp key xs x) ≤ length xs + 1
  put_long xs x =
      let e : length (put cmp key xs x) ≡ length (before_key cmp key xs (key x)) + suc (length (behind_key cmp key xs (key x))) = length-append (before_key cmp key xs (key x)) (x ∷ behind_key cmp key xs (key x)) in
      omega (arith, sides_long (key x) xs, e)
