-- Looking for the one of a number in lists in which each has a number of its own.
use Rattle.std.proofs.Common.{◌≡◌, ℕ, ◌==◌, not, Bool, true, false, cond, List, [], ◌∷◌, ◌++◌, Some, None, map, filter, refl, sym, ap, ◌∙◌}
use Rattle.std.specs.List.{AllByRecursion, find, list_all, list_any}
use Rattle.std.proofs.lemmas.Bool.{true≢false}
use Rattle.zr_lists.proofs.Numbers.{same_number, turned}
use Rattle.zr_node_spec.proofs.Links.{none_passes}

-- ---- what is looked for, and those that pass a test

module _ {X : Type 0} (p q : X → Bool) where
  -- where none that is looked for passes it, none is found there
  pub find_gone : ((x : X) → p x ≡ true → q x ≡ false) → (xs : List X) → find p (filter q xs) ≡ None
  find_gone h [] = refl
  find_gone h (x ∷ xs) = by (p x) (q x) refl refl (find_gone h xs)
    where
      by : (a b : Bool) → p x ≡ a → q x ≡ b → find p (filter q xs) ≡ None → find p (cond b (x ∷ filter q xs) (filter q xs)) ≡ None
      by true true e f ih = absurd (true≢false (sym f ∙ h x e))
      by true false e f ih = ih
      by false true e f ih = rw e ih
      by false false e f ih = ih

  -- what isn't there isn't among those that pass
  pub none_kept : (xs : List X) → find p xs ≡ None → find p (filter q xs) ≡ None
  none_kept [] h = refl
  none_kept (x ∷ xs) h = by (p x) (q x) refl h (none_kept xs)
    where
      by : (a b : Bool) → p x ≡ a → cond a (Some x) (find p xs) ≡ None → (find p xs ≡ None → find p (filter q xs) ≡ None) → find p (cond b (x ∷ filter q xs) (filter q xs)) ≡ None
      by true b e h ih = cc
      by false true e h ih = rw e (ih h)
      by false false e h ih = ih h

-- all pass a test that fails only where something is looked for which isn't there
pub all_others : {X : Type 0} (p : X → Bool) (xs : List X) → find p xs ≡ None → filter (λ x. not (p x)) xs ≡ xs
all_others p [] h = refl
all_others p (x ∷ xs) h = by (p x) h (all_others p xs)
  where
    by : (a : Bool) → cond a (Some x) (find p xs) ≡ None → (find p xs ≡ None → filter (λ y. not (p y)) xs ≡ xs)
        → cond (not a) (x ∷ filter (λ y. not (p y)) xs) (filter (λ y. not (p y)) xs) ≡ x ∷ xs
    by true h ih = cc
    by false h ih = ap (λ ys. x ∷ ys) (ih h)

-- one test behind the other
pub filter_filter : {X : Type 0} (p q : X → Bool) (xs : List X) → filter p (filter q xs) ≡ filter q (filter p xs)
filter_filter p q [] = refl
filter_filter p q (x ∷ xs) = by (p x) (q x) refl refl (filter_filter p q xs)
  where
    by : (a b : Bool) → p x ≡ a → q x ≡ b → filter p (filter q xs) ≡ filter q (filter p xs)
        → filter p (cond b (x ∷ filter q xs) (filter q xs)) ≡ filter q (cond a (x ∷ filter p xs) (filter p xs))
    by true true e f ih = rw (e, f) (ap (λ ys. x ∷ ys) ih)
    by true false e f ih = rw f ih
    by false true e f ih = rw e ih
    by false false e f ih = ih

-- ---- each has a number of its own

module _ {X : Type 0} (number : X → ℕ) where
  abbrev pub AreDistinct : List X → Type 0
  AreDistinct [] = Unit {0}
  AreDistinct (x ∷ xs) = (find (λ y. number y == number x) xs ≡ None) × AreDistinct xs

  pub distinct_filter : (q : X → Bool) (xs : List X) → AreDistinct xs → AreDistinct (filter q xs)
  distinct_filter q [] h = tt
  distinct_filter q (x ∷ xs) h = by (q x) (distinct_filter q xs h.1)
    where
      by : (b : Bool) → AreDistinct (filter q xs) → AreDistinct (cond b (x ∷ filter q xs) (filter q xs))
      by true ih = (none_kept (λ y. number y == number x) q xs h.0, ih)
      by false ih = ih

  pub distinct_more : (xs : List X) (x : X) → find (λ y. number y == number x) xs ≡ None → AreDistinct xs → AreDistinct (xs ++ x ∷ [])
  distinct_more [] x none h = (refl, tt)
  distinct_more (y ∷ ys) x none h = by (number y == number x) refl none (λ k. distinct_more ys x k h.1)
    where
      beside : (zs : List X) → (number x == number y) ≡ false → find (λ z. number z == number y) zs ≡ None → find (λ z. number z == number y) (zs ++ x ∷ []) ≡ None
      beside [] e k = rw e refl
      beside (z ∷ zs) e k = with_z (number z == number y) k (beside zs e)
        where
          with_z : (b : Bool) → cond b (Some z) (find (λ w. number w == number y) zs) ≡ None
              → (find (λ w. number w == number y) zs ≡ None → find (λ w. number w == number y) (zs ++ x ∷ []) ≡ None)
              → cond b (Some z) (find (λ w. number w == number y) (zs ++ x ∷ [])) ≡ None
          with_z true k ih = cc
          with_z false k ih = ih k

      by : (b : Bool) → (number y == number x) ≡ b → cond b (Some y) (find (λ z. number z == number x) ys) ≡ None
          → (find (λ z. number z == number x) ys ≡ None → AreDistinct (ys ++ x ∷ [])) → AreDistinct (y ∷ (ys ++ x ∷ []))
      by true e k ih = cc
      by false e k ih = (beside ys (turned (number y) (number x) e) h.0, ih k)

  -- each is found by its number
  pub each_found : (xs : List X) → AreDistinct xs → AllByRecursion (λ x. find (λ y. number y == number x) xs ≡ Some x) xs
  each_found [] h = tt
  each_found (x ∷ xs) h = (rw (same_number (number x)) refl, behind xs (none_passes (λ y. number y == number x) xs h.0) (each_found xs h.1))
    where
      behind : (ks : List X) → AllByRecursion (λ k. (number k == number x) ≡ false) ks → AllByRecursion (λ k. find (λ y. number y == number k) xs ≡ Some k) ks
          → AllByRecursion (λ k. find (λ y. number y == number k) (x ∷ xs) ≡ Some k) ks
      behind [] o f = tt
      behind (k ∷ ks) o f = (rw (turned (number k) (number x) o.0) f.0, behind ks o.1 f.1)

  -- the number of each is among those that pass a test exactly where it passes
  pub each_among : (q : X → Bool) (xs : List X) → AreDistinct xs → AllByRecursion (λ x. list_any (λ y. number y == number x) (filter q xs) ≡ q x) xs
  each_among q [] h = tt
  each_among q (x ∷ xs) h = (first (q x), behind xs others (each_among q xs h.1))
    where
      others : AllByRecursion (λ k. (number k == number x) ≡ false) xs
      others = none_passes (λ y. number y == number x) xs h.0

      none_of : (ks : List X) → AllByRecursion (λ k. (number k == number x) ≡ false) ks → list_any (λ y. number y == number x) (filter q ks) ≡ false
      none_of [] o = refl
      none_of (k ∷ ks) o = with_k (q k) (none_of ks o.1)
        where
          with_k : (b : Bool) → list_any (λ y. number y == number x) (filter q ks) ≡ false → list_any (λ y. number y == number x) (cond b (k ∷ filter q ks) (filter q ks)) ≡ false
          with_k true ih = rw o.0 ih
          with_k false ih = ih

      first : (b : Bool) → list_any (λ y. number y == number x) (cond b (x ∷ filter q xs) (filter q xs)) ≡ b
      first true = rw (same_number (number x)) refl
      first false = none_of xs others

      behind : (ks : List X) → AllByRecursion (λ k. (number k == number x) ≡ false) ks → AllByRecursion (λ k. list_any (λ y. number y == number k) (filter q xs) ≡ q k) ks
          → AllByRecursion (λ k. list_any (λ y. number y == number k) (cond (q x) (x ∷ filter q xs) (filter q xs)) ≡ q k) ks
      behind [] o f = tt
      behind (k ∷ ks) o f = (with_x (q x) f.0, behind ks o.1 f.1)
        where
          with_x : (b : Bool) → list_any (λ y. number y == number k) (filter q xs) ≡ q k → list_any (λ y. number y == number k) (cond b (x ∷ filter q xs) (filter q xs)) ≡ q k
          with_x true g = rw (turned (number k) (number x) o.0) g
          with_x false g = g

  -- without one of them are those of other numbers
  pub without_one : (front : List X) (x : X) (back : List X) → AreDistinct (front ++ x ∷ back) → filter (λ y. not (number y == number x)) (front ++ x ∷ back) ≡ front ++ back
  without_one [] x back h = rw (same_number (number x)) (all_others (λ y. number y == number x) back h.0)
  without_one (y ∷ front) x back h = rw differs (ap (λ ys. y ∷ ys) (without_one front x back h.1))
    where
      not_there : (zs : List X) → find (λ z. number z == number y) (zs ++ x ∷ back) ≡ None → (number x == number y) ≡ false
      not_there [] k = by (number x == number y) refl k
        where
          by : (b : Bool) → (number x == number y) ≡ b → cond b (Some x) (find (λ z. number z == number y) back) ≡ None → (number x == number y) ≡ false
          by true e k = cc
          by false e k = e
      not_there (z ∷ zs) k = by (number z == number y) k (not_there zs)
        where
          by : (b : Bool) → cond b (Some z) (find (λ w. number w == number y) (zs ++ x ∷ back)) ≡ None
              → (find (λ w. number w == number y) (zs ++ x ∷ back) ≡ None → (number x == number y) ≡ false) → (number x == number y) ≡ false
          by true k ih = cc
          by false k ih = ih k

      differs : (number y == number x) ≡ false
      differs = turned (number x) (number y) (not_there front h.0)

-- a change that keeps numbers keeps them apart
pub distinct_map : {X Y : Type 0} (number : X → ℕ) (other : Y → ℕ) (f : X → Y) → ((x : X) → other (f x) ≡ number x) → (xs : List X) → AreDistinct number xs → AreDistinct other (map f xs)
distinct_map {X} {Y} number other f same [] h = tt
distinct_map {X} {Y} number other f same (x ∷ xs) h = (none xs h.0, distinct_map number other f same xs h.1)
  where
    none : (ys : List X) → find (λ y. number y == number x) ys ≡ None → find (λ y. other y == other (f x)) (map f ys) ≡ None
    none [] k = refl
    none (y ∷ ys) k = rw (same y, same x) (by (number y == number x) k (none ys))
      where
        by : (b : Bool) → cond b (Some y) (find (λ z. number z == number x) ys) ≡ None
            → (find (λ z. number z == number x) ys ≡ None → find (λ z. other z == other (f x)) (map f ys) ≡ None)
            → cond b (Some (f y)) (find (λ z. other z == other (f x)) (map f ys)) ≡ None
        by true k ih = cc
        by false k ih = ih k

pub distinct_unmap : {X Y : Type 0} (number : Y → ℕ) (f : X → Y) (xs : List X) → AreDistinct number (map f xs) → AreDistinct (λ x. number (f x)) xs
distinct_unmap {X} {Y} number f [] h = tt
distinct_unmap {X} {Y} number f (x ∷ xs) h = (none xs h.0, distinct_unmap number f xs h.1)
  where
    none : (ys : List X) → find (λ y. number y == number (f x)) (map f ys) ≡ None → find (λ y. number (f y) == number (f x)) ys ≡ None
    none [] k = refl
    none (y ∷ ys) k = by (number (f y) == number (f x)) k (none ys)
      where
        by : (b : Bool) → cond b (Some (f y)) (find (λ z. number z == number (f x)) (map f ys)) ≡ None
            → (find (λ z. number z == number (f x)) (map f ys) ≡ None → find (λ z. number (f z) == number (f x)) ys ≡ None)
            → cond b (Some y) (find (λ z. number (f z) == number (f x)) ys) ≡ None
        by true k ih = cc
        by false k ih = ih k

-- ---- each of a list

module _ {X : Type 0} where
  pub each_both : (P Q : X → Type 0) (xs : List X) → AllByRecursion P xs → AllByRecursion Q xs → AllByRecursion (λ x. P x × Q x) xs
  each_both P Q [] h k = tt
  each_both P Q (x ∷ xs) h k = ((h.0, k.0), each_both P Q xs h.1 k.1)

  pub each_so : (P Q : X → Type 0) → ((x : X) → P x → Q x) → (xs : List X) → AllByRecursion P xs → AllByRecursion Q xs
  each_so P Q f [] h = tt
  each_so P Q f (x ∷ xs) h = (f x h.0, each_so P Q f xs h.1)

  -- those that pass a test
  pub each_kept : (P : X → Type 0) (p : X → Bool) (xs : List X) → AllByRecursion P xs → AllByRecursion (λ x. (p x ≡ true) × P x) (filter p xs)
  each_kept P p [] h = tt
  each_kept P p (x ∷ xs) h = by (p x) refl (each_kept P p xs h.1)
    where
      by : (b : Bool) → p x ≡ b → AllByRecursion (λ x. (p x ≡ true) × P x) (filter p xs) → AllByRecursion (λ x. (p x ≡ true) × P x) (cond b (x ∷ filter p xs) (filter p xs))
      by true e ih = ((e, h.0), ih)
      by false e ih = ih

  -- all that pass one test pass another, where each does
  pub all_kept : (p r : X → Bool) (xs : List X) → AllByRecursion (λ x. p x ≡ true → r x ≡ true) xs → list_all r (filter p xs) ≡ true
  all_kept p r [] h = refl
  all_kept p r (x ∷ xs) h = by (p x) refl (all_kept p r xs h.1)
    where
      by : (b : Bool) → p x ≡ b → list_all r (filter p xs) ≡ true → list_all r (cond b (x ∷ filter p xs) (filter p xs)) ≡ true
      by true e ih = rw (h.0 e) ih
      by false e ih = ih

pub each_mapped : {X Y : Type 0} (P : Y → Type 0) (f : X → Y) (xs : List X) → AllByRecursion P (map f xs) → AllByRecursion (λ x. P (f x)) xs
each_mapped P f [] h = tt
each_mapped P f (x ∷ xs) h = (h.0, each_mapped P f xs h.1)
