-- Sums over parts of a list, and over an ascending list into which one is put: it takes the place of what has its key.
use Rattle.std.proofs.Common.{◌≡◌, ◌≤◌, ◌+◌, ℕ, Bool, true, false, cond, List, [], ◌∷◌, Ordering, Less, Equal, Greater, refl, sym, ap, ◌∙◌, subst, arith}
use Rattle.std.specs.Prelude.{filter}
use Rattle.std.specs.List.{sum_by}
use Rattle.std.specs.Ordering.{is_eq, is_lt}
use Rattle.std.proofs.lemmas.List.Sums.{sum_by-cons, sum_by-append}
use Rattle.zr_lists.specs.Ascending.{before_key, behind_key, put}
use Rattle.zr_lists.proofs.Order.{IsExactOrder, comes, comes_back, not_before_itself}

module _ {X : Type 0} (f : X → ℕ) where
  -- one element is kept or not
  sum_if : (t : Bool) (x : X) (xs : List X) → sum_by f (cond t (x ∷ xs) xs) ≡ cond t (f x) 0 + sum_by f xs
  sum_if true x xs = sum_by-cons f x xs
  sum_if false x xs = omega arith

  pub filter_sum : (p : X → Bool) (xs : List X) → sum_by f (filter p xs) ≤ sum_by f xs
  filter_sum p [] = omega arith
  filter_sum p (x ∷ xs) = omega (arith, sum_if (p x) x (filter p xs), sum_by-cons f x xs, filter_sum p xs, small (p x))
    where
      small : (t : Bool) → cond t (f x) 0 ≤ f x
      small true = omega arith
      small false = omega arith

  -- three tests of which an element passes one at most
  abbrev of_one : Bool → Bool → Bool → ℕ → Type 0
  of_one a b c n = cond a n 0 + cond b n 0 + cond c n 0 ≤ n

  parts_sum : (p q r : X → Bool) (xs : List X) → ((x : X) → of_one (p x) (q x) (r x) (f x)) → sum_by f (filter p xs) + sum_by f (filter q xs) + sum_by f (filter r xs) ≤ sum_by f xs
  parts_sum p q r [] h = omega arith
  parts_sum p q r (x ∷ xs) h =
      omega (arith, sum_if (p x) x (filter p xs), sum_if (q x) x (filter q xs), sum_if (r x) x (filter r xs), sum_by-cons f x xs, parts_sum p q r xs h, h x)

  module _ {K : Type 0} (cmp : K → K → Ordering) (key : X → K) (o : IsExactOrder cmp) where
    -- what is put in takes the place of what has its key
    pub put_sum : (xs : List X) (x : X) → sum_by f (put cmp key xs x) + sum_by f (filter (λ y. is_eq (cmp (key y) (key x))) xs) ≤ sum_by f xs + f x
    put_sum xs x = omega (
      arith,
      sum_by-append f (before_key cmp key xs (key x)) (x ∷ behind_key cmp key xs (key x)),
      sum_by-cons f x (behind_key cmp key xs (key x)),
      parts_sum (λ y. is_lt (cmp (key y) (key x))) (λ y. is_lt (cmp (key x) (key y))) (λ y. is_eq (cmp (key y) (key x))) xs one,
    )
      where
        one : (y : X) → of_one (is_lt (cmp (key y) (key x))) (is_lt (cmp (key x) (key y))) (is_eq (cmp (key y) (key x))) (f y)
        one y = by (cmp (key y) (key x)) refl
          where
            at : (a b c a' b' c' : Bool) → a ≡ a' → b ≡ b' → c ≡ c' → of_one a' b' c' (f y) → of_one a b c (f y)
            at a b c a' b' c' ea eb ec h = subst (λ t. of_one t b c (f y)) (sym ea) (subst (λ t. of_one a' t c (f y)) (sym eb) (subst (λ t. of_one a' b' t (f y)) (sym ec) h))

            by : (r : Ordering) → cmp (key y) (key x) ≡ r → of_one (is_lt (cmp (key y) (key x))) (is_lt (cmp (key x) (key y))) (is_eq (cmp (key y) (key x))) (f y)
            by Less e = let c = comes cmp o (key y) (key x) e in at _ _ _ true false false c.before c.not_after c.apart (omega arith)
            by Equal e =
                let same : key y ≡ key x = o.exact (key y) (key x) e in
                at _ _ _ false false true (ap is_lt e) (ap (λ z. is_lt (cmp (key x) z)) same ∙ not_before_itself cmp o (key x)) (ap is_eq e) (omega arith)
            by Greater e = let c = comes_back cmp o (key y) (key x) e in at _ _ _ false true false c.not_after c.before c.apart_back (omega arith)

    pub put_sum_le : (xs : List X) (x : X) → sum_by f (put cmp key xs x) ≤ sum_by f xs + f x
    put_sum_le xs x = omega (arith, put_sum xs x)
