-- What is made of the elements of a list that pass a test, taken one after another.
use Rattle.std.proofs.Common.{◌≡◌, ℕ, ◌+◌, ◌<◌, Bool, true, false, cond, List, [], ◌∷◌, ◌++◌, length, map, filter, drop, get_or, sym, ap, ◌∙◌, append_assoc}
use Rattle.std.proofs.lemmas.List.{at_drop_more}

module _ {X Y : Type 0} (f : X → Y) (p : X → Bool) (xs : List X) (i : ℕ) (x : X) (lt : i < length xs) (is : x ≡ get_or xs i x) where
  abbrev rest : List X
  rest = drop (i + 1) xs

  -- the element that comes next is the first of those that are left
  next : (b : Bool) → p x ≡ b → map f (filter p (drop i xs)) ≡ map f (cond b (x ∷ filter p rest) (filter p rest))
  next b e =
      at_drop_more (λ l. map f (filter p l)) xs i x lt ∙ ap (λ y. map f (filter p (y ∷ rest))) (sym is)
      ∙ ap (λ c. map f (cond c (x ∷ filter p rest) (filter p rest))) e

  pub taken : (made all : List Y) → made ++ map f (filter p (drop i xs)) ≡ all → p x ≡ true → (now : List Y) → now ≡ made ++ f x ∷ [] → now ++ map f (filter p (drop (i + 1) xs)) ≡ all
  taken made all so passes now pushed =
      ap (λ l. l ++ map f (filter p rest)) pushed ∙ append_assoc made (f x ∷ []) (map f (filter p rest)) ∙ sym (ap (λ l. made ++ l) (next true passes)) ∙ so

  pub passed_over : (made all : List Y) → made ++ map f (filter p (drop i xs)) ≡ all → p x ≡ false → (now : List Y) → now ≡ made → now ++ map f (filter p (drop (i + 1) xs)) ≡ all
  passed_over made all so fails now same = ap (λ l. l ++ map f (filter p rest)) same ∙ sym (ap (λ l. made ++ l) (next false fails)) ∙ so
