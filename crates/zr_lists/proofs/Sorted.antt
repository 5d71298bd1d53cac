-- A list in strict order stays so where one more element is put in its place.
use Rattle.std.proofs.Common.{◌≡◌, List, [], ◌∷◌, ◌++◌, true, Ordering, Less, Equal, Greater, map, refl}
use Rattle.std.specs.Cmp.{IsTotalOrder}
use Rattle.std.specs.List.{AllByRecursion, filter}
use Rattle.std.specs.List.Sorted.{IsStrictlySortedBy}
use Rattle.std.specs.Ordering.{is_lt}
use Rattle.std.proofs.lemmas.List.Kept.{IsStrictlySortedBy-filter}
use Rattle.std.proofs.lemmas.Map.Keys.{sorted_head, sorted_tail}
use Rattle.zr_lists.proofs.Each.{All-append, All-each, All-mapped, All-passing, All-unmapped}

pub less_from_test : (o : Ordering) → is_lt o ≡ true → o ≡ Less
less_from_test Less h = refl
less_from_test Equal h = cc
less_from_test Greater h = cc

pub sorted_cons : {X : Type 0} (cmp : X → X → Ordering) (x : X) (xs : List X) → AllByRecursion (λ y. cmp x y ≡ Less) xs → IsStrictlySortedBy cmp xs → IsStrictlySortedBy cmp (x ∷ xs)
unfolding IsStrictlySortedBy
sorted_cons cmp x xs h up = (h, up)

-- where what comes after y comes after x before it
module _ {X : Type 0} (cmp : X → X → Ordering) (further : (x y z : X) → cmp x y ≡ Less → cmp y z ≡ Less → cmp x z ≡ Less) where
  -- two lists in order, where all of the first come before the head of the second
  pub sorted_join : (xs : List X) (y : X) (ys : List X) → IsStrictlySortedBy cmp xs → IsStrictlySortedBy cmp (y ∷ ys) → AllByRecursion (λ x. cmp x y ≡ Less) xs → IsStrictlySortedBy cmp (xs ++ y ∷ ys)
  sorted_join [] y ys up more below = more
  sorted_join (x ∷ xs) y ys up more below =
      sorted_cons cmp x (xs ++ y ∷ ys)
      (All-append _ xs (y ∷ ys) (sorted_head _ x xs up) (below.0, All-each _ _ ys (λ z k. further x y z below.0 k) (sorted_head _ y ys more)))
      (sorted_join xs y ys (sorted_tail _ x xs up) more below.1)

  pub sorted_between : (x : X) (xs : List X) → IsStrictlySortedBy cmp xs → IsStrictlySortedBy cmp (filter (λ y. is_lt (cmp y x)) xs ++ x ∷ filter (λ y. is_lt (cmp x y)) xs)
  sorted_between x xs up =
      sorted_join (filter (λ y. is_lt (cmp y x)) xs) x (filter (λ y. is_lt (cmp x y)) xs) (IsStrictlySortedBy-filter _ _ xs up)
      (sorted_cons cmp x (filter (λ y. is_lt (cmp x y)) xs)
      (All-passing (λ y. is_lt (cmp x y)) (λ y. cmp x y ≡ Less) xs (λ y t. less_from_test (cmp x y) t))
      (IsStrictlySortedBy-filter _ _ xs up))
      (All-passing (λ y. is_lt (cmp y x)) (λ y. cmp y x ≡ Less) xs (λ y t. less_from_test (cmp y x) t))

pub sorted_inserted : {K : Type 0} (cmp : K → K → Ordering) (order : IsTotalOrder cmp) (x : K) (xs : List K) → IsStrictlySortedBy cmp xs → IsStrictlySortedBy cmp (filter (λ y. is_lt (cmp y x)) xs ++ x ∷ filter (λ y. is_lt (cmp x y)) xs)
sorted_inserted cmp order x xs up = sorted_between cmp order.trans x xs up

-- keys in order are elements in the order of their keys
module _ {X K : Type 0} (cmp : K → K → Ordering) (key : X → K) where
  pub by_keys : (xs : List X) → IsStrictlySortedBy cmp (map key xs) → IsStrictlySortedBy (λ x y. cmp (key x) (key y)) xs
  unfolding IsStrictlySortedBy
  by_keys [] up = tt
  by_keys (x ∷ xs) up = (All-unmapped (λ k. cmp (key x) k ≡ Less) key xs up.0, by_keys xs up.1)

  pub keys_by : (xs : List X) → IsStrictlySortedBy (λ x y. cmp (key x) (key y)) xs → IsStrictlySortedBy cmp (map key xs)
  unfolding IsStrictlySortedBy
  keys_by [] up = tt
  keys_by (x ∷ xs) up = (All-mapped (λ k. cmp (key x) k ≡ Less) key xs up.0, keys_by xs up.1)
