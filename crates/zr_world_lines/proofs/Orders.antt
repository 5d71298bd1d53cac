-- Lines that are sorted are in the order of their bytes.
use Rattle.std.proofs.Common.{◌≡◌, ℕ, ◌+◌, ◌<◌, List, [], ◌∷◌, length, map, ◌∙◌, arith, IsPermutation, IsSorted}
use Rattle.std.specs.Ordering.{is_lt, nat_cmp}
use Rattle.std.specs.Cmp.Lexicographic.{slice_cmp}
use Rattle.std.proofs.lemmas.List.{get_or-map, length-map}
use Rattle.std.proofs.lemmas.List.Sorted.{IsPermutation-map}
use Rattle.zr_orders.specs.Ranked.{ranked, text_cmp}
use Rattle.zr_orders.proofs.Ranked.{sort_is_ranked}

sorted_texts : {R : Type 0} (shown : R → List ℕ) (ls : List R) → IsSorted (λ x y. slice_cmp nat_cmp (shown x) (shown y)) ls → IsSorted text_cmp (map shown ls)
sorted_texts shown [] h = λ k d low lt. absurd (omega (arith, lt))
sorted_texts shown (l ∷ ls) h = λ k d low lt.
    let long : length (map shown (l ∷ ls)) ≡ length (l ∷ ls) = length-map (l ∷ ls) shown in
    let here : k + 1 < length (l ∷ ls) = omega (arith, lt, long) in
    let before : k < length (l ∷ ls) = omega (arith, here) in
    (λ i. is_lt (text_cmp (get_or-map shown (l ∷ ls) (k + 1) l d here i) (get_or-map shown (l ∷ ls) k l d before i))) ∙ h k l low here

pub sorted_ranked : {R : Type 0} (shown : R → List ℕ) (ls ms : List R) → IsPermutation ls ms → IsSorted (λ x y. slice_cmp nat_cmp (shown x) (shown y)) ms →
    map shown ms ≡ ranked (map shown ls)
sorted_ranked shown ls ms moved sorted = sort_is_ranked (map shown ls) (map shown ms) (IsPermutation-map shown ls ms moved) (sorted_texts shown ms sorted)
