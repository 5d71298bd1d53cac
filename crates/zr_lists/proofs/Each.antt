-- What holds of each element of a list: of lists that are put together, of what a filter keeps and of what is found.
use Rattle.std.proofs.Common.{◌≡◌, List, [], ◌∷◌, ◌++◌, Bool, true, false, cond, Some, map, refl, sym, ap, ◌∙◌, subst}
use Rattle.std.specs.List.{AllByRecursion, filter, find}

module _ {X : Type 0} where
  pub All-append : (P : X → Type 0) (xs ys : List X) → AllByRecursion P xs → AllByRecursion P ys → AllByRecursion P (xs ++ ys)
  All-append P [] ys h k = k
  All-append P (x ∷ xs) ys h k = (h.0, All-append P xs ys h.1 k)

  pub All-front : (P : X → Type 0) (xs ys : List X) → AllByRecursion P (xs ++ ys) → AllByRecursion P xs
  All-front P [] ys h = tt
  All-front P (x ∷ xs) ys h = (h.0, All-front P xs ys h.1)

  pub All-back : (P : X → Type 0) (xs ys : List X) → AllByRecursion P (xs ++ ys) → AllByRecursion P ys
  All-back P [] ys h = h
  All-back P (x ∷ xs) ys h = All-back P xs ys h.1

  pub All-each : (P Q : X → Type 0) (xs : List X) → ((x : X) → P x → Q x) → AllByRecursion P xs → AllByRecursion Q xs
  All-each P Q [] f h = h
  All-each P Q (x ∷ xs) f h = (f x h.0, All-each P Q xs f h.1)

  -- what holds of all holds of those that a filter keeps, beside its test
  pub All-kept : (P Q : X → Type 0) (p : X → Bool) (xs : List X) → ((x : X) → P x → p x ≡ true → Q x) → AllByRecursion P xs → AllByRecursion Q (filter p xs)
  All-kept P Q p [] f h = h
  All-kept P Q p (x ∷ xs) f h = by_test (p x) (f x h.0) (All-kept P Q p xs f h.1)
    where
      by_test : (t : Bool) → (t ≡ true → Q x) → AllByRecursion Q (filter p xs) → AllByRecursion Q (cond t (x ∷ filter p xs) (filter p xs))
      by_test true f ih = (f refl, ih)
      by_test false f ih = ih

  pub All-any : (xs : List X) → AllByRecursion (λ _. Unit {0}) xs
  All-any [] = tt
  All-any (x ∷ xs) = (tt, All-any xs)

  pub All-passing : (p : X → Bool) (P : X → Type 0) (xs : List X) → ((x : X) → p x ≡ true → P x) → AllByRecursion P (filter p xs)
  All-passing p P xs f = All-kept (λ _. Unit {0}) P p xs (λ x u. f x) (All-any xs)

  pub All-filter : (p : X → Bool) (P : X → Type 0) (xs : List X) → AllByRecursion P xs → AllByRecursion P (filter p xs)
  All-filter p P xs h = All-kept P P p xs (λ x k t. k) h

  -- what is found passes the test, and what holds of all holds of it
  pub found_holds : (P : X → Type 0) (p : X → Bool) (xs : List X) (x : X) → AllByRecursion P xs → find p xs ≡ Some x → P x × (p x ≡ true)
  found_holds P p [] x h e = cc
  found_holds P p (y ∷ xs) x h e = by (p y) refl e (found_holds P p xs x h.1)
    where
      by : (b : Bool) → p y ≡ b → cond b (Some y) (find p xs) ≡ Some x → (find p xs ≡ Some x → P x × (p x ≡ true)) → P x × (p x ≡ true)
      by true t e ih = let same : y ≡ x = cc in (subst P same h.0, ap p (sym same) ∙ t)
      by false t e ih = ih e

module _ {X Y : Type 0} where
  -- of what a map gives
  pub All-mapped : (P : Y → Type 0) (f : X → Y) (xs : List X) → AllByRecursion (λ x. P (f x)) xs → AllByRecursion P (map f xs)
  All-mapped P f [] h = tt
  All-mapped P f (x ∷ xs) h = (h.0, All-mapped P f xs h.1)

  pub All-unmapped : (P : Y → Type 0) (f : X → Y) (xs : List X) → AllByRecursion P (map f xs) → AllByRecursion (λ x. P (f x)) xs
  All-unmapped P f [] h = tt
  All-unmapped P f (x ∷ xs) h = (h.0, All-unmapped P f xs h.1)
