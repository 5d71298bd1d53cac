-- Lists as sets: what a test, a filter and a search find in them.
use Rattle.std.proofs.Common.{◌≡◌, ℕ, ◌<◌, zero, suc, Bool, true, false, cond, ◌||◌, List, [], ◌∷◌, ◌++◌, Some, None, ◌⊎◌, inl, inr, length, get_or, map, refl, sym, ap, ◌∙◌, arith}
use Rattle.std.specs.List.{filter, find, list_any, slice_get}
use Rattle.std.specs.Option.{option_map}
use Rattle.std.proofs.lemmas.Bool.{false≢true}

module _ {X : Type 0} where
  -- an element of a list
  abbrev pub In : X → List X → Type 0
  In y [] = ⊥
  In y (x ∷ xs) = (y ≡ x) ⊎ In y xs

  pub any_in : (p : X → Bool) (xs : List X) → list_any p xs ≡ true → (y : X) × In y xs × (p y ≡ true)
  any_in p [] h = absurd (false≢true h)
  any_in p (x ∷ xs) h = by_test (p x) refl h (any_in p xs)
    where
      by_test : (t : Bool) → p x ≡ t → (t || list_any p xs) ≡ true → (list_any p xs ≡ true → (y : X) × In y xs × (p y ≡ true)) → (y : X) × In y (x ∷ xs) × (p y ≡ true)
      by_test true e h ih = (x, inl refl, e)
      by_test false e h ih = let f = ih h in (f.0, inr f.1, f.2)

  pub in_any : (p : X → Bool) (xs : List X) (y : X) → In y xs → p y ≡ true → list_any p xs ≡ true
  in_any p [] y h e = absurd h
  in_any p (x ∷ xs) y (inl i) e = let f : p x ≡ true = ap p (sym i) ∙ e in rw f refl
  in_any p (x ∷ xs) y (inr i) e = by_test (p x) (in_any p xs y i e)
    where
      by_test : (t : Bool) → list_any p xs ≡ true → (t || list_any p xs) ≡ true
      by_test true h = refl
      by_test false h = h

  -- where no element passes
  pub none_any : (p : X → Bool) (xs : List X) → ((y : X) → In y xs → p y ≡ false) → list_any p xs ≡ false
  none_any p [] h = refl
  none_any p (x ∷ xs) h = let e = h x (inl refl) in rw e (none_any p xs (λ y i. h y (inr i)))

  pub any_none : (p : X → Bool) (xs : List X) (y : X) → list_any p xs ≡ false → In y xs → p y ≡ false
  any_none p xs y h i = by_test (p y) refl
    where
      by_test : (t : Bool) → p y ≡ t → p y ≡ false
      by_test true e = absurd (false≢true (sym h ∙ in_any p xs y i e))
      by_test false e = e

  pub in_filter : (p : X → Bool) (xs : List X) (y : X) → In y (filter p xs) → In y xs × (p y ≡ true)
  in_filter p [] y h = absurd h
  in_filter p (x ∷ xs) y h = by_test (p x) refl h (in_filter p xs y)
    where
      by_test : (t : Bool) → p x ≡ t → In y (cond t (x ∷ filter p xs) (filter p xs)) → (In y (filter p xs) → In y xs × (p y ≡ true)) → In y (x ∷ xs) × (p y ≡ true)
      by_test true e (inl i) ih = (inl i, ap p i ∙ e)
      by_test true e (inr i) ih = let f = ih i in (inr f.0, f.1)
      by_test false e i ih = let f = ih i in (inr f.0, f.1)

  pub filter_in : (p : X → Bool) (xs : List X) (y : X) → In y xs → p y ≡ true → In y (filter p xs)
  filter_in p [] y h e = absurd h
  filter_in p (x ∷ xs) y (inl i) e = let f : p x ≡ true = ap p (sym i) ∙ e in rw f (inl i)
  filter_in p (x ∷ xs) y (inr i) e = by_test (p x) (filter_in p xs y i e)
    where
      by_test : (t : Bool) → In y (filter p xs) → In y (cond t (x ∷ filter p xs) (filter p xs))
      by_test true h = inr h
      by_test false h = h

  pub find_in : (p : X → Bool) (xs : List X) (y : X) → find p xs ≡ Some y → In y xs × (p y ≡ true)
  find_in p [] y h = absurd (cc)
  find_in p (x ∷ xs) y h = by_test (p x) refl h (find_in p xs y)
    where
      by_test : (t : Bool) → p x ≡ t → cond t (Some x) (find p xs) ≡ Some y → (find p xs ≡ Some y → In y xs × (p y ≡ true)) → In y (x ∷ xs) × (p y ≡ true)
      by_test true e h ih = let i : x ≡ y = cc in (inl (sym i), ap p (sym i) ∙ e)
      by_test false e h ih = let f = ih h in (inr f.0, f.1)

  pub in_find : (p : X → Bool) (xs : List X) (y : X) → In y xs → p y ≡ true → (z : X) × (find p xs ≡ Some z)
  in_find p [] y h e = absurd h
  in_find p (x ∷ xs) y (inl i) e = let f : p x ≡ true = ap p (sym i) ∙ e in (x, rw f refl)
  in_find p (x ∷ xs) y (inr i) e = by_test (p x) (in_find p xs y i e)
    where
      by_test : (t : Bool) → ((z : X) × (find p xs ≡ Some z)) → (z : X) × (cond t (Some x) (find p xs) ≡ Some z)
      by_test true h = (x, refl)
      by_test false h = h

  pub none_find : (p : X → Bool) (xs : List X) → ((y : X) → In y xs → p y ≡ false) → find p xs ≡ None
  none_find p [] h = refl
  none_find p (x ∷ xs) h = let e = h x (inl refl) in rw e (none_find p xs (λ y i. h y (inr i)))

  -- the only element that passes is found
  pub only_find : (p : X → Bool) (xs : List X) (y : X) → In y xs → p y ≡ true → ((z : X) → In z xs → p z ≡ true → z ≡ y) → find p xs ≡ Some y
  only_find p xs y i e only =
      let f = in_find p xs y i e in
      let g = find_in p xs f.0 f.1 in
      f.1 ∙ ap Some (only f.0 g.0 g.1)

  -- two tests that agree on the elements
  pub same_any : (p q : X → Bool) (xs : List X) → ((y : X) → In y xs → p y ≡ q y) → list_any p xs ≡ list_any q xs
  same_any p q [] h = refl
  same_any p q (x ∷ xs) h = let e = h x (inl refl) in rw e (ap (λ t. q x || t) (same_any p q xs (λ y i. h y (inr i))))

  pub same_find : (p q : X → Bool) (xs : List X) → ((y : X) → In y xs → p y ≡ q y) → find p xs ≡ find q xs
  same_find p q [] h = refl
  same_find p q (x ∷ xs) h = let e = h x (inl refl) in rw e (ap (λ t. cond (q x) (Some x) t) (same_find p q xs (λ y i. h y (inr i))))

  pub same_filter : (p q : X → Bool) (xs : List X) → ((y : X) → In y xs → p y ≡ q y) → filter p xs ≡ filter q xs
  same_filter p q [] h = refl
  same_filter p q (x ∷ xs) h = let e = h x (inl refl) in rw e (ap (λ t. cond (q x) (x ∷ t) t) (same_filter p q xs (λ y i. h y (inr i))))

  -- what passes the first test passes the second
  pub filter-filter : (p q : X → Bool) (xs : List X) → ((y : X) → In y xs → p y ≡ true → q y ≡ true) → filter p (filter q xs) ≡ filter p xs
  filter-filter p q [] h = refl
  filter-filter p q (x ∷ xs) h = by_test (p x) (q x) refl (h x (inl refl)) (filter-filter p q xs (λ y i. h y (inr i)))
    where
      by_test : (s t : Bool) → p x ≡ s → (p x ≡ true → t ≡ true) → filter p (filter q xs) ≡ filter p xs → filter p (cond t (x ∷ filter q xs) (filter q xs)) ≡ cond s (x ∷ filter p xs) (filter p xs)
      by_test true true e k ih = rw e (ap (λ ys. x ∷ ys) ih)
      by_test true false e k ih = absurd (false≢true (k e))
      by_test false true e k ih = rw e ih
      by_test false false e k ih = ih

  pub place_in : (xs : List X) (i : ℕ) (d : X) → i < length xs → In (get_or xs i d) xs
  place_in [] i d lt = absurd (omega arith)
  place_in (x ∷ xs) zero d lt = inl refl
  place_in (x ∷ xs) (suc i) d lt = inr (place_in xs i d (omega arith))

  pub in_place : (xs : List X) (y d : X) → In y xs → (i : ℕ) × (i < length xs) × (get_or xs i d ≡ y)
  in_place [] y d h = absurd h
  in_place (x ∷ xs) y d (inl i) = (0, omega arith, sym i)
  in_place (x ∷ xs) y d (inr i) = let f = in_place xs y d i in (suc f.0, omega (arith, f.1), f.2)

module _ {X Y : Type 0} where
  pub find-map : (p : Y → Bool) (f : X → Y) (xs : List X) → find p (map f xs) ≡ option_map f (find (λ x. p (f x)) xs)
  find-map p f [] = refl
  find-map p f (x ∷ xs) = by_test (p (f x)) (find-map p f xs)
    where
      by_test : (t : Bool) → find p (map f xs) ≡ option_map f (find (λ x. p (f x)) xs) → cond t (Some (f x)) (find p (map f xs)) ≡ option_map f (cond t (Some x) (find (λ x. p (f x)) xs))
      by_test true h = refl
      by_test false h = h

  pub filter-map : (p : Y → Bool) (f : X → Y) (xs : List X) → filter p (map f xs) ≡ map f (filter (λ x. p (f x)) xs)
  filter-map p f [] = refl
  filter-map p f (x ∷ xs) = by_test (p (f x)) (filter-map p f xs)
    where
      by_test : (t : Bool) → filter p (map f xs) ≡ map f (filter (λ x. p (f x)) xs) → cond t (f x ∷ filter p (map f xs)) (filter p (map f xs)) ≡ map f (cond t (x ∷ filter (λ x. p (f x)) xs) (filter (λ x. p (f x)) xs))
      by_test true h = ap (λ ys. f x ∷ ys) h
      by_test false h = h

  pub map_in : (f : X → Y) (xs : List X) (x : X) → In x xs → In (f x) (map f xs)
  map_in f [] x h = absurd h
  map_in f (y ∷ xs) x (inl i) = inl (ap f i)
  map_in f (y ∷ xs) x (inr i) = inr (map_in f xs x i)

  pub in_map : (f : X → Y) (xs : List X) (y : Y) → In y (map f xs) → (x : X) × In x xs × (f x ≡ y)
  in_map f [] y h = absurd h
  in_map f (x ∷ xs) y (inl i) = (x, inl refl, sym i)
  in_map f (x ∷ xs) y (inr i) = let g = in_map f xs y i in (g.0, inr g.1, g.2)

module _ {X : Type 0} where
  pub slice_get_kept : (xs ys : List X) (i : ℕ) (x : X) → slice_get xs i ≡ Some x → slice_get (xs ++ ys) i ≡ Some x
  slice_get_kept [] ys i x h = absurd (cc)
  slice_get_kept (z ∷ xs) ys zero x h = h
  slice_get_kept (z ∷ xs) ys (suc i) x h = slice_get_kept xs ys i x h

  pub slice_get_pushed : (xs : List X) (i : ℕ) (x : X) → i ≡ length xs → slice_get (xs ++ x ∷ []) i ≡ Some x
  slice_get_pushed [] i x h = rw h refl
  slice_get_pushed (z ∷ xs) zero x h = absurd (omega arith)
  slice_get_pushed (z ∷ xs) (suc i) x h = slice_get_pushed xs i x (omega arith)
