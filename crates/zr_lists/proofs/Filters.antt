-- What a filter keeps, and what is found in what it keeps.
use Rattle.std.proofs.Common.{◌≡◌, ◌≤◌, suc, List, [], ◌∷◌, Bool, true, false, cond, ◌||◌, ◌&&◌, Some, None, length, refl, ap, arith, sym, ◌∙◌}
use Rattle.std.specs.List.{AllByRecursion, filter, find, list_any}
use Rattle.std.proofs.lemmas.Bool.{true≢false, false≢true}

module _ {X : Type 0} where
  pub filter_all : (p : X → Bool) (xs : List X) → AllByRecursion (λ x. p x ≡ true) xs → filter p xs ≡ xs
  filter_all p [] h = refl
  filter_all p (x ∷ xs) h = rw h.0 (ap (λ t. x ∷ t) (filter_all p xs h.1))

  pub filter_none : (p : X → Bool) (xs : List X) → AllByRecursion (λ x. p x ≡ false) xs → filter p xs ≡ []
  filter_none p [] h = refl
  filter_none p (x ∷ xs) h = rw h.0 (filter_none p xs h.1)

  pub find_none : (p : X → Bool) (xs : List X) → AllByRecursion (λ x. p x ≡ false) xs → find p xs ≡ None
  find_none p [] h = refl
  find_none p (x ∷ xs) h = rw h.0 (find_none p xs h.1)

  -- what a test finds is kept by a filter of all that passes it
  pub find_filter_kept : (p q : X → Bool) (xs : List X) → ((x : X) → p x ≡ true → q x ≡ true) → find p (filter q xs) ≡ find p xs
  find_filter_kept p q [] h = refl
  find_filter_kept p q (x ∷ xs) h = by_test (p x) (q x) (h x) (find_filter_kept p q xs h) refl
    where
      by_test : (s t : Bool) → (s ≡ true → t ≡ true) → find p (filter q xs) ≡ find p xs → p x ≡ s → find p (cond t (x ∷ filter q xs) (filter q xs)) ≡ cond s (Some x) (find p xs)
      by_test true true k ih e = rw e refl
      by_test true false k ih e = absurd (false≢true (k refl))
      by_test false true k ih e = rw e ih
      by_test false false k ih e = ih

  -- and nothing is found where a filter takes all of it
  pub find_filter_gone : (p q : X → Bool) (xs : List X) → ((x : X) → p x ≡ true → q x ≡ false) → find p (filter q xs) ≡ None
  find_filter_gone p q [] h = refl
  find_filter_gone p q (x ∷ xs) h = by_test (p x) (q x) (h x) (find_filter_gone p q xs h) refl
    where
      by_test : (s t : Bool) → (s ≡ true → t ≡ false) → find p (filter q xs) ≡ None → p x ≡ s → find p (cond t (x ∷ filter q xs) (filter q xs)) ≡ None
      by_test true true k ih e = absurd (true≢false (k refl))
      by_test true false k ih e = ih
      by_test false true k ih e = rw e ih
      by_test false false k ih e = ih

  pub filter_shorter : (p : X → Bool) (xs : List X) → length (filter p xs) ≤ length xs
  filter_shorter p [] = omega arith
  filter_shorter p (x ∷ xs) = by (p x) (filter_shorter p xs)
    where
      by : (t : Bool) → length (filter p xs) ≤ length xs → length (cond t (x ∷ filter p xs) (filter p xs)) ≤ suc (length xs)
      by true h = omega arith
      by false h = omega arith

  -- a test of those that another test keeps
  pub any_kept : (p q : X → Bool) (xs : List X) → list_any p (filter q xs) ≡ list_any (λ x. q x && p x) xs
  any_kept p q [] = refl
  any_kept p q (x ∷ xs) = by (q x) (any_kept p q xs)
    where
      by : (t : Bool) → list_any p (filter q xs) ≡ list_any (λ y. q y && p y) xs → list_any p (cond t (x ∷ filter q xs) (filter q xs)) ≡ ((t && p x) || list_any (λ y. q y && p y) xs)
      by true ih = ap (λ z. p x || z) ih
      by false ih = ih

-- what a test finds is found among those that a filter keeps, if it is kept
pub find_filter_there : {X : Type 0} (p q : X → Bool) (xs : List X) (x : X) → find p xs ≡ Some x → q x ≡ true → find p (filter q xs) ≡ Some x
find_filter_there p q [] x h k = h
find_filter_there p q (y ∷ xs) x h k = by (p y) (q y) refl refl h (λ g. find_filter_there p q xs x g k)
  where
    by : (a b : Bool) → p y ≡ a → q y ≡ b → cond a (Some y) (find p xs) ≡ Some x → (find p xs ≡ Some x → find p (filter q xs) ≡ Some x)
        → find p (cond b (y ∷ filter q xs) (filter q xs)) ≡ Some x
    by true true e f h ih = rw e h
    by true false e f h ih = let same : y ≡ x = cc in absurd (true≢false (sym k ∙ ap q (sym same) ∙ f))
    by false true e f h ih = rw e (ih h)
    by false false e f h ih = ih h
