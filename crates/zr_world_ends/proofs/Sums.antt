-- Sums that stand still at the largest number.
use Rattle.std.proofs.Common.{◌≡◌, ℕ, ◌+◌, ◌<◌, List, [], ◌∷◌, ◌++◌, length, map, take, get_or, refl, sym, ap, ◌∙◌, arith}
use Rattle.std.specs.Prelude.{min}
use Rattle.std.specs.List.{sum_by}
use Rattle.std.proofs.lemmas.List.Sums.{sum_by-append, sum_by-cons, sum_by_more}

pub min_both : (a b most : ℕ) → min (a + b) most ≡ min (min a most + min b most) most
min_both a b most = omega arith

pub capped_both : {X : Type 0} (f : X → ℕ) (xs ys : List X) (most : ℕ) → min (sum_by f (xs ++ ys)) most ≡ min (min (sum_by f xs) most + min (sum_by f ys) most) most
capped_both f xs ys most = ap (λ n. min n most) (sum_by-append f xs ys) ∙ min_both (sum_by f xs) (sum_by f ys) most

-- one more
pub capped_more : {X : Type 0} (f : X → ℕ) (xs : List X) (i : ℕ) (x : X) (most : ℕ) → i < length xs → x ≡ get_or xs i x →
    min (min (sum_by f (take i xs)) most + min (f x) most) most ≡ min (sum_by f (take (i + 1) xs)) most
capped_more f xs i x most lt is =
    sym (min_both (sum_by f (take i xs)) (f x) most) ∙ ap (λ y. min (sum_by f (take i xs) + f y) most) is ∙ ap (λ n. min n most) (sym (sum_by_more f xs i x lt))

-- sums stand still alike where what they add does
pub capped_same : {X : Type 0} (f g : X → ℕ) (most : ℕ) → ((x : X) → min (f x) most ≡ min (g x) most) → (xs : List X) → min (sum_by f xs) most ≡ min (sum_by g xs) most
capped_same f g most h [] = refl
capped_same f g most h (x ∷ xs) =
    ap (λ n. min n most) (sum_by-cons f x xs) ∙ min_both (f x) (sum_by f xs) most ∙ (λ i. min (h x i + capped_same f g most h xs i) most)
    ∙ sym (ap (λ n. min n most) (sum_by-cons g x xs) ∙ min_both (g x) (sum_by g xs) most)

pub sum_by_mapped : {X Y : Type 0} (f : X → ℕ) (h : Y → X) (ys : List Y) → sum_by f (map h ys) ≡ sum_by (λ y. f (h y)) ys
sum_by_mapped f h [] = refl
sum_by_mapped f h (y ∷ ys) = sum_by-cons f (h y) (map h ys) ∙ ap (λ n. f (h y) + n) (sum_by_mapped f h ys) ∙ sym (sum_by-cons (λ z. f (h z)) y ys)

-- the same, by what stands at the place
pub capped_at : {X : Type 0} (f : X → ℕ) (xs : List X) (i : ℕ) (d : X) (most : ℕ) → i < length xs →
    min (min (sum_by f (take i xs)) most + min (f (get_or xs i d)) most) most ≡ min (sum_by f (take (i + 1) xs)) most
capped_at f xs i d most lt = sym (min_both (sum_by f (take i xs)) (f (get_or xs i d)) most) ∙ ap (λ n. min n most) (sym (sum_by_more f xs i d lt))
