-- Elements of lists: by their places, in lists that are put together, and in what mappings give. And counts of what passes two tests.
use Rattle.std.proofs.Common.{◌≡◌, ◌≤◌, ℕ, zero, suc, ◌+◌, inl, inr, Bool, true, false, cond, List, [], ◌∷◌, ◌++◌, Option, Some, None, refl, sym, ap, ◌∙◌, subst, arith}
use Rattle.std.specs.Prelude.{◌&&◌}
use Rattle.std.specs.List.{AllByRecursion, cons_option, count_by, filter_map, slice_get}
use Rattle.std.proofs.lemmas.Bool.{and_right}
use Rattle.std.proofs.lemmas.List.Sums.{sum_by-cons}
use Rattle.std.proofs.lemmas.Option.{none-some}
use Rattle.zr_lists.proofs.Finds.{In}
use Rattle.zr_lists.proofs.Elements.{each_in}

-- ---- places

pub get_in : {X : Type 0} (xs : List X) (i : ℕ) (x : X) → slice_get xs i ≡ Some x → In x xs
get_in [] i x e = absurd (none-some x e)
get_in (y ∷ xs) zero x e = inl (let one : x ≡ y = cc in one)
get_in (y ∷ xs) (suc i) x e = inr (get_in xs i x e)

pub in_get : {X : Type 0} (xs : List X) (x : X) → In x xs → (i : ℕ) × (slice_get xs i ≡ Some x)
in_get [] x i = absurd i
in_get (y ∷ xs) x (inl e) = (zero, ap (λ z. Some z) (sym e))
in_get (y ∷ xs) x (inr i) = let more = in_get xs x i in (suc more.0, more.1)

-- what holds of each holds of the one at a place
pub all_at : {X : Type 0} (P : X → Type 0) (xs : List X) (i : ℕ) (x : X) → AllByRecursion P xs → slice_get xs i ≡ Some x → P x
all_at P xs i x h e = each_in P xs x h (get_in xs i x e)

-- ---- lists put together

-- an element parts a list
pub parted : {X : Type 0} (xs : List X) (x : X) → In x xs → (done : List X) × (rest : List X) × (xs ≡ done ++ x ∷ rest)
parted [] x i = absurd i
parted (y ∷ xs) x (inl e) = ([], xs, ap (λ z. z ∷ xs) (sym e))
parted (y ∷ xs) x (inr i) = let more = parted xs x i in (y ∷ more.0, more.1, ap (λ zs. y ∷ zs) more.2)

-- ---- mappings

-- what a mapping gives is of an element
pub from_map : {X Y : Type 0} (f : X → Option Y) (xs : List X) (y : Y) → In y (filter_map f xs) → (x : X) × In x xs × (f x ≡ Some y)
from_map f [] y i = absurd i
from_map {X = X} {Y = Y} f (x ∷ xs) y i = by (f x) refl i (λ k. from_map f xs y k)
  where
    by : (o : Option Y) → f x ≡ o → In y (cons_option o (filter_map f xs)) → (In y (filter_map f xs) → (z : X) × In z xs × (f z ≡ Some y)) → (z : X) × In z (x ∷ xs) × (f z ≡ Some y)
    by None e k ih = let more = ih k in (more.0, inr more.1, more.2)
    by (Some z) e (inl k) ih = (x, inl refl, e ∙ ap (λ v. Some v) (sym k))
    by (Some z) e (inr k) ih = let more = ih k in (more.0, inr more.1, more.2)

pub into_map : {X Y : Type 0} (f : X → Option Y) (xs : List X) (x : X) (y : Y) → In x xs → f x ≡ Some y → In y (filter_map f xs)
into_map f [] x y i e = absurd i
into_map f (z ∷ xs) x y (inl k) e = subst (λ o. In y (cons_option o (filter_map f xs))) (sym (ap f (sym k) ∙ e)) (inl refl)
into_map {X = X} {Y = Y} f (z ∷ xs) x y (inr k) e = by (f z) (into_map f xs x y k e)
  where
    by : (o : Option Y) → In y (filter_map f xs) → In y (cons_option o (filter_map f xs))
    by None i = i
    by (Some v) i = inr i

pub none_mapped : {X Y : Type 0} (f : X → Option Y) (xs : List X) → ((x : X) → In x xs → f x ≡ None) → filter_map f xs ≡ []
none_mapped f [] h = refl
none_mapped f (x ∷ xs) h = ap (λ o. cons_option o (filter_map f xs)) (h x (inl refl)) ∙ none_mapped f xs (λ z i. h z (inr i))

-- ---- counts

-- of what passes two tests, where all pass the second one
pub count_all : {X : Type 0} (p t : X → Bool) (xs : List X) → AllByRecursion (λ x. t x ≡ true) xs → count_by (λ x. p x && t x) xs ≡ count_by p xs
count_all p t [] h = refl
count_all {X = X} p t (x ∷ xs) h =
    sum_by-cons (λ (z : X). cond (p z && t z) 1 0) x xs ∙ (λ i. cond (p x && h.0 i) 1 0 + count_all p t xs h.1 i) ∙ ap (λ b. cond b 1 0 + count_by p xs) (by (p x))
    ∙ sym (sum_by-cons (λ (z : X). cond (p z) 1 0) x xs)
  where
    by : (b : Bool) → (b && true) ≡ b
    by true = refl
    by false = refl

-- and where none does
pub count_none : {X : Type 0} (p t : X → Bool) (xs : List X) → AllByRecursion (λ x. t x ≡ false) xs → count_by (λ x. p x && t x) xs ≡ 0
count_none p t [] h = refl
count_none {X = X} p t (x ∷ xs) h = sum_by-cons (λ (z : X). cond (p z && t z) 1 0) x xs ∙ (λ i. cond (and_right (p x) (t x) h.0 i) 1 0 + count_none p t xs h.1 i)

pub count_fewer : {X : Type 0} (p t : X → Bool) (xs : List X) → count_by (λ x. p x && t x) xs ≤ count_by p xs
count_fewer p t [] = omega arith
count_fewer {X = X} p t (x ∷ xs) =
    let ih : count_by (λ z. p z && t z) xs ≤ count_by p xs = count_fewer p t xs in
    subst (λ k. k ≤ count_by p (x ∷ xs)) (sym (sum_by-cons (λ (z : X). cond (p z && t z) 1 0) x xs))
    (subst (λ k. cond (p x && t x) 1 0 + count_by (λ z. p z && t z) xs ≤ k) (sym (sum_by-cons (λ (z : X). cond (p z) 1 0) x xs)) (by (p x) (t x) ih))
  where
    by : (c d : Bool) → count_by (λ z. p z && t z) xs ≤ count_by p xs → cond (c && d) 1 0 + count_by (λ z. p z && t z) xs ≤ cond c 1 0 + count_by p xs
    by true true le = omega arith
    by true false le = omega arith
    by false d le = omega arith
