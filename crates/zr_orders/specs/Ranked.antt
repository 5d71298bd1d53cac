-- Texts in ascending order of their bytes.
use Rattle.std.specs.Prelude.{◌≡◌, ℕ, if◌then◌else◌, List, [], ◌∷◌, map, IsPermutation, IsSorted}
use Rattle.std.specs.declared.cmp.Ordering.{Ordering}
use Rattle.std.specs.Ordering.{is_lt, nat_cmp}
use Rattle.std.specs.Cmp.Lexicographic.{slice_cmp}
use Rattle.zr_orders.specs.Bag.{AreSame}

-- one more in its place: behind those that are below it
abbrev pub put_in : {K : Type 0} → (K → K → Ordering) → K → List K → List K
put_in cmp x [] = x ∷ []
put_in cmp x (y ∷ ys) = if is_lt (cmp y x) then y ∷ put_in cmp x ys else x ∷ y ∷ ys

abbrev pub ranked_by : {K : Type 0} → (K → K → Ordering) → List K → List K
ranked_by cmp [] = []
ranked_by cmp (x ∷ xs) = put_in cmp x (ranked_by cmp xs)

abbrev pub text_cmp : List ℕ → List ℕ → Ordering
text_cmp s t = slice_cmp nat_cmp s t

abbrev pub ranked : List (List ℕ) → List (List ℕ)
ranked ts = ranked_by text_cmp ts

-- the same things, each as often, have the same texts in the same order
abbrev pub SortedAlike : Type 0 → Type 0
SortedAlike X = (text : X → List ℕ) (xs ys : List X) → AreSame xs ys → ranked (map text xs) ≡ ranked (map text ys)

-- what a sort gives is what is said
abbrev pub SortIsRanked : Type 0
SortIsRanked = (ts us : List (List ℕ)) → IsPermutation ts us → IsSorted text_cmp us → us ≡ ranked ts
