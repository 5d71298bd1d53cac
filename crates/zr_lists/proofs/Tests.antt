-- Filters, maps and tests of lists.
use Rattle.std.proofs.Common.{◌≡◌, Bool, true, false, cond, List, [], ◌∷◌, ◌++◌, map, refl, sym, ap, ◌∙◌, ◌||◌}
use Rattle.std.specs.Prelude.{filter}
use Rattle.std.specs.List.{list_all, list_any}
use Rattle.std.proofs.lemmas.Bool.{and_parts, and_from}
use Rattle.std.proofs.lemmas.List.Folds.{list_all-append}

module _ {X : Type 0} where
  -- a filter keeps all that passes its test
  pub filter_keeps_all : (t : X → Bool) (xs : List X) → list_all t xs ≡ true → filter t xs ≡ xs
  filter_keeps_all t [] h = refl
  filter_keeps_all t (x ∷ xs) h =
      let parts = and_parts (t x) (list_all t xs) h in
      rw parts.0 (ap (λ z. x ∷ z) (filter_keeps_all t xs parts.1))

  -- what a filter keeps passes its test
  pub all_of_filter : (t : X → Bool) (xs : List X) → list_all t (filter t xs) ≡ true
  all_of_filter t [] = refl
  all_of_filter t (x ∷ xs) = by (t x) refl (all_of_filter t xs)
    where
      by : (b : Bool) → t x ≡ b → list_all t (filter t xs) ≡ true → list_all t (cond b (x ∷ filter t xs) (filter t xs)) ≡ true
      by true e ih = and_from (t x) (list_all t (filter t xs)) e ih
      by false e ih = ih

  -- a filter keeps nothing where each element passes a test that rules it out
  pub filter_none_of_all : (p t : X → Bool) → ((x : X) → t x ≡ true → p x ≡ false) → (xs : List X) → list_all t xs ≡ true → filter p xs ≡ []
  filter_none_of_all p t f [] h = refl
  filter_none_of_all p t f (x ∷ xs) h =
      rw (f x (and_parts (t x) (list_all t xs) h).0) (filter_none_of_all p t f xs (and_parts (t x) (list_all t xs) h).1)

  -- a test that another one implies
  pub weaker : (t u : X → Bool) → ((x : X) → t x ≡ true → u x ≡ true) → (xs : List X) → list_all t xs ≡ true → list_all u xs ≡ true
  weaker t u f [] h = refl
  weaker t u f (x ∷ xs) h = and_from (u x) (list_all u xs) (f x (and_parts (t x) (list_all t xs) h).0) (weaker t u f xs (and_parts (t x) (list_all t xs) h).1)

  -- a test of one list behind another
  pub all_both : (t : X → Bool) (xs ys : List X) → list_all t xs ≡ true → list_all t ys ≡ true → list_all t (xs ++ ys) ≡ true
  all_both t xs ys h k = list_all-append t xs ys ∙ and_from (list_all t xs) (list_all t ys) h k

  -- the parts of a test of one list behind another
  pub all_parts : (t : X → Bool) (xs ys : List X) → list_all t (xs ++ ys) ≡ true → (list_all t xs ≡ true) × (list_all t ys ≡ true)
  all_parts t xs ys h = and_parts (list_all t xs) (list_all t ys) (sym (list_all-append t xs ys) ∙ h)

  -- a test of what a map gives, where all pass
  pub all_mapped : {Y : Type 0} (t : X → Bool) (f : Y → X) → ((y : Y) → t (f y) ≡ true) → (ys : List Y) → list_all t (map f ys) ≡ true
  all_mapped t f h [] = refl
  all_mapped t f h (y ∷ ys) = and_from (t (f y)) (list_all t (map f ys)) (h y) (all_mapped t f h ys)

  -- a test that each passes
  pub all_true : (t : X → Bool) → ((x : X) → t x ≡ true) → (xs : List X) → list_all t xs ≡ true
  all_true t h [] = refl
  all_true t h (x ∷ xs) = and_from (t x) (list_all t xs) (h x) (all_true t h xs)

  pub all_pass : (xs : List X) → list_all (λ x. true) xs ≡ true
  all_pass xs = all_true (λ x. true) (λ x. refl) xs

pub any_mapped : {X Y : Type 0} (p : Y → Bool) (f : X → Y) (xs : List X) → list_any p (map f xs) ≡ list_any (λ x. p (f x)) xs
any_mapped p f [] = refl
any_mapped p f (x ∷ xs) = ap (λ b. p (f x) || b) (any_mapped p f xs)
