-- The least number that no link has is found by counting along the links, as long as each has the number that is counted.
use Rattle.std.proofs.Common.{◌≡◌, ℕ, ◌+◌, ◌<◌, ◌≤◌, ◌==◌, nat_lt, suc, zero, Bool, true, false, cond, List, [], ◌∷◌, Some, Less, length, map, unwrap_or, refl, drop, get_or, add-one, sym, ap, subst, ◌∙◌, arith}
use Rattle.std.specs.Cmp.{ranked}
use Rattle.std.specs.List.{AllByRecursion, find, range_with_len}
use Rattle.std.specs.Ordering.{nat_cmp}
use Rattle.std.proofs.lemmas.Bool.{eqb-true, eq-eqb, ltb-true, ltb-false, false_from_ne_true, true≢false}
use Rattle.std.proofs.lemmas.List.{at_drop_more}
use Rattle.std.proofs.lemmas.Map.Keys.{sorted_head}
use Rattle.zr_msg.specs.declared.peer.LinkPeer.{LinkPeer}
use Rattle.zr_node_spec.specs.Tables.{free_link}
use Rattle.zr_lists.proofs.Each.{All-each}
use Rattle.zr_node_spec.proofs.Links.{AreAscending, ascending_behind}
use Rattle.zr_node_spec.proofs.FreeLink.{is_free}

-- the first number from one on that the links do not have in a row
abbrev pub counted : ℕ → List LinkPeer → ℕ
counted n [] = n
counted n (p ∷ peers) = cond (p.link.0 == n) (counted (n + 1) peers) n

-- where two tests agree from a number on, they find the same from there
find_alike : (p q : ℕ → Bool) (a n : ℕ) → ((k : ℕ) → a ≤ k → p k ≡ q k) → find p (range_with_len a n) ≡ find q (range_with_len a n)
find_alike p q a zero h = refl
find_alike p q a (suc n) h = rw (h a (omega arith), find_alike p q (a + 1) n (λ k le. h k (omega arith))) refl

-- all numbers are above one
abbrev AreAbove : ℕ → List LinkPeer → Type 0
AreAbove n links = AllByRecursion (λ m. nat_cmp n m ≡ Less) (map (λ l. l.link.0) links)

differs : (n m : ℕ) → n < m → (m == n) ≡ false
differs n m h = false_from_ne_true (m == n) (λ t. let u = eqb-true m n t in absurd (omega (arith, u)))

below_differs : (n m : ℕ) → n < m → (n == m) ≡ false
below_differs n m h = false_from_ne_true (n == m) (λ t. let u = eqb-true n m t in absurd (omega (arith, u)))

strictly : (n m : ℕ) → n ≤ m → (m == n) ≡ false → n < m
strictly n m le e = by_cases (nat_lt n m) refl
  where
    by_cases : (b : Bool) → nat_lt n m ≡ b → n < m
    by_cases true t = ltb-true n m t
    by_cases false t = let u = ltb-false n m t in absurd (true≢false (sym (eq-eqb m n (omega (arith, u))) ∙ e))

free_below : (n : ℕ) (links : List LinkPeer) → AllByRecursion (λ m. n < m) (map (λ l. l.link.0) links) → is_free links n ≡ true
free_below n [] h = refl
free_below n (l ∷ links) h = rw (differs n l.link.0 h.0) (free_below n links h.1)

above : (n : ℕ) (links : List LinkPeer) → AreAbove n links → AllByRecursion (λ m. n < m) (map (λ l. l.link.0) links)
above n links h = All-each _ _ (map (λ l. l.link.0) links) (λ m less. ranked n m Less (sym less)) h

-- of links that ascend and are not below a number the least free one from there on is counted
counted_free : (links : List LinkPeer) (n : ℕ) → AreAscending links → AllByRecursion (λ m. n ≤ m) (map (λ l. l.link.0) links)
    → find (is_free links) (range_with_len n (suc (length links))) ≡ Some (counted n links)
counted_free [] n up h = refl
counted_free (l ∷ links) n up h = by (l.link.0 == n) refl (λ more. counted_free links (n + 1) (ascending_behind l links up) more)
  where
    later : AllByRecursion (λ m. l.link.0 < m) (map (λ k. k.link.0) links)
    later = above l.link.0 links (sorted_head nat_cmp _ _ up)

    by : (b : Bool) → (l.link.0 == n) ≡ b
        → (AllByRecursion (λ m. n + 1 ≤ m) (map (λ k. k.link.0) links) → find (is_free links) (range_with_len (n + 1) (suc (length links))) ≡ Some (counted (n + 1) links))
        → find (is_free (l ∷ links)) (range_with_len n (suc (suc (length links)))) ≡ Some (cond b (counted (n + 1) links) n)
    by true e ih =
        let same : l.link.0 ≡ n = eqb-true l.link.0 n e in
        let taken : is_free (l ∷ links) n ≡ false = rw e refl in
        let rest : find (is_free (l ∷ links)) (range_with_len (n + 1) (suc (length links))) ≡ find (is_free links) (range_with_len (n + 1) (suc (length links))) =
        find_alike (is_free (l ∷ links)) (is_free links) (n + 1) (suc (length links)) (λ k le. rw (below_differs l.link.0 k (omega arith)) refl) in
        subst (λ b. cond b (Some n) (find (is_free (l ∷ links)) (range_with_len (n + 1) (suc (length links)))) ≡ Some (counted (n + 1) links)) (sym taken) (rest ∙ ih (All-each _ _ (map (λ k. k.link.0) links) (λ m less. omega arith) later))
    by false e ih =
        let first : n < l.link.0 = strictly n l.link.0 h.0 e in
        let free : is_free (l ∷ links) n ≡ true = free_below n (l ∷ links) (first, All-each _ _ (map (λ k. k.link.0) links) (λ m less. omega arith) later) in
        subst (λ b. cond b (Some n) (find (is_free (l ∷ links)) (range_with_len (n + 1) (suc (length links)))) ≡ Some n) (sym free) refl

pub counted_all : (links : List LinkPeer) → AreAscending links → counted 0 links ≡ free_link links
counted_all links up =
    sym (ap (λ k. unwrap_or (find (is_free links) (range_with_len 0 k)) 0) (add-one (length links)) ∙ ap (λ o. unwrap_or o 0) (counted_free links 0 up (all_from (map (λ l. l.link.0) links))))
  where
    all_from : (ns : List ℕ) → AllByRecursion (λ m. 0 ≤ m) ns
    all_from [] = tt
    all_from (n ∷ ns) = (omega arith, all_from ns)

-- counting stops at a link of another number, and at the end
pub counted_stops : (peers : List LinkPeer) (i n : ℕ) (d : LinkPeer) → i < length peers → ((get_or peers i d).link.0 ≡ n → ⊥) → counted n (drop i peers) ≡ n
counted_stops peers i n d less other =
    at_drop_more (λ ps. counted n ps) peers i d less
    ∙ ap (λ b. cond b (counted (n + 1) (drop (i + 1) peers)) n) (false_from_ne_true ((get_or peers i d).link.0 == n) (λ t. other (eqb-true _ _ t)))

pub counted_ends : (peers : List LinkPeer) (i n : ℕ) → length peers ≤ i → counted n (drop i peers) ≡ n
counted_ends [] zero n h = refl
counted_ends [] (suc i) n h = refl
counted_ends (p ∷ peers) zero n h = absurd (omega arith)
counted_ends (p ∷ peers) (suc i) n h = counted_ends peers i n (omega arith)
