-- Elements of lists that are put together, and what is so of each of them.
use Rattle.std.proofs.Common.{◌≡◌, Bool, true, List, [], ◌∷◌, ◌++◌, ◌⊎◌, inl, inr, refl, sym, ap, ◌∙◌, subst}
use Rattle.std.specs.List.{AllByRecursion, flat_map, list_all}
use Rattle.std.proofs.lemmas.Bool.{and_parts, false≢true}
use Rattle.std.specs.Prelude.{map}
use Rattle.zr_lists.proofs.Finds.{In}

module _ {X : Type 0} where
  -- what holds of each element by recursion holds of one that is there, and the other way round
  pub each_in : (P : X → Type 0) (xs : List X) (y : X) → AllByRecursion P xs → In y xs → P y
  each_in P [] y h i = absurd i
  each_in P (x ∷ xs) y h (inl i) = subst P (sym i) h.0
  each_in P (x ∷ xs) y h (inr i) = each_in P xs y h.1 i

  pub in_each : (P : X → Type 0) (xs : List X) → ((y : X) → In y xs → P y) → AllByRecursion P xs
  in_each P [] f = tt
  in_each P (x ∷ xs) f = (f x (inl refl), in_each P xs (λ y i. f y (inr i)))

  -- what all pass each passes
  pub passes_each : (p : X → Bool) (xs : List X) (x : X) → list_all p xs ≡ true → In x xs → p x ≡ true
  passes_each p [] x h i = absurd i
  passes_each p (y ∷ xs) x h (inl e) = ap p e ∙ (and_parts (p y) (list_all p xs) h).0
  passes_each p (y ∷ xs) x h (inr i) = passes_each p xs x (and_parts (p y) (list_all p xs) h).1 i

  -- ---- lists put together

  pub in_front : (xs ys : List X) (x : X) → In x xs → In x (xs ++ ys)
  in_front [] ys x i = absurd i
  in_front (z ∷ xs) ys x (inl e) = inl e
  in_front (z ∷ xs) ys x (inr i) = inr (in_front xs ys x i)

  pub in_behind : (xs ys : List X) (x : X) → In x ys → In x (xs ++ ys)
  in_behind [] ys x i = i
  in_behind (z ∷ xs) ys x i = inr (in_behind xs ys x i)

  pub in_either : (xs ys : List X) (x : X) → In x (xs ++ ys) → In x xs ⊎ In x ys
  in_either [] ys x i = inr i
  in_either (z ∷ xs) ys x (inl e) = inl (inl e)
  in_either (z ∷ xs) ys x (inr i) = by (in_either xs ys x i)
    where
      by : In x xs ⊎ In x ys → In x (z ∷ xs) ⊎ In x ys
      by (inl k) = inl (inr k)
      by (inr k) = inr k

module _ {X Y : Type 0} where
  -- what a mapping to lists gives is of an element
  pub in_flat : (f : X → List Y) (xs : List X) (y : Y) → In y (flat_map f xs) → (x : X) × In x xs × In y (f x)
  in_flat f [] y i = absurd i
  in_flat f (x ∷ xs) y i = by (in_either (f x) (flat_map f xs) y i) (λ k. in_flat f xs y k)
    where
      by : In y (f x) ⊎ In y (flat_map f xs) → (In y (flat_map f xs) → (z : X) × In z xs × In y (f z)) → (z : X) × In z (x ∷ xs) × In y (f z)
      by (inl k) ih = (x, inl refl, k)
      by (inr k) ih = let more = ih k in (more.0, inr more.1, more.2)

  pub flat_in : (f : X → List Y) (xs : List X) (x : X) (y : Y) → In x xs → In y (f x) → In y (flat_map f xs)
  flat_in f [] x y i k = absurd i
  flat_in f (z ∷ xs) x y (inl e) k = in_front (f z) (flat_map f xs) y (subst (λ v. In y (f v)) e k)
  flat_in f (z ∷ xs) x y (inr i) k = in_behind (f z) (flat_map f xs) y (flat_in f xs x y i k)

-- ---- no elements

pub none_both : {X : Type 0} (xs ys : List X) → xs ++ ys ≡ [] → (xs ≡ []) × (ys ≡ [])
none_both [] ys h = (refl, h)
none_both (x ∷ xs) ys h = let bad : ⊥ = cc in absurd bad

pub none_mapped : {X Y : Type 0} (f : X → Y) (xs : List X) → map f xs ≡ [] → xs ≡ []
none_mapped f [] h = refl
none_mapped f (x ∷ xs) h = let bad : ⊥ = cc in absurd bad
