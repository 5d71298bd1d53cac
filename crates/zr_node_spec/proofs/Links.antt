-- The links of a router in ascending order of their numbers: which is found under a number.
use Rattle.std.proofs.Common.{◌≡◌, ℕ, ◌<◌, ◌≤◌, ◌==◌, ◌&&◌, nat_lt, not, Bool, true, false, cond, List, [], ◌∷◌, ◌++◌, Some, None, Less, Equal, map, filter, append_assoc, refl, sym, ap, subst, ◌∙◌, arith, Option}
use Rattle.std.specs.List.{AllByRecursion, find}
use Rattle.std.specs.List.Sorted.{IsStrictlySortedBy}
use Rattle.std.specs.Cmp.{ranked}
use Rattle.std.specs.Option.{option_map_or}
use Rattle.std.specs.Ordering.{nat_cmp}
use Rattle.std.proofs.lemmas.Bool.{eqb-true, eq-eqb, ltb-true, ltb-false, lt-ltb, false_from_ne_true, true≢false}
use Rattle.std.proofs.lemmas.Cmp.{nat_cmp_total, tied_itself}
use Rattle.std.proofs.lemmas.Option.{none-some}
use Rattle.std.proofs.lemmas.Map.Keys.{sorted_head, sorted_tail}
use Rattle.zr_lists.proofs.Numbers.{above_differs}
use Rattle.zr_node_spec.specs.Tables.{link_at, is_router}
use Rattle.zr_msg.specs.declared.peer.LinkPeer.{LinkPeer}
use Rattle.zr_lists.proofs.Each.{All-append}

abbrev pub AreAscending : List LinkPeer → Type 0
AreAscending links = IsStrictlySortedBy nat_cmp (map (λ l. l.link.0) links)

-- no link has a number that is below those of all
pub none_above : (n : ℕ) (links : List LinkPeer) → AllByRecursion (λ m. nat_cmp n m ≡ Less) (map (λ l. l.link.0) links) → link_at links n ≡ None
none_above n [] h = refl
none_above n (l ∷ links) h = rw (above_differs n l.link.0 h.0) (none_above n links h.1)

-- behind the first there is none of its number
pub none_behind : (l : LinkPeer) (links : List LinkPeer) → AreAscending (l ∷ links) → link_at links l.link.0 ≡ None
none_behind l links up = none_above l.link.0 links (sorted_head nat_cmp _ _ up)

pub ascending_behind : (l : LinkPeer) (links : List LinkPeer) → AreAscending (l ∷ links) → AreAscending links
ascending_behind l links up = sorted_tail nat_cmp _ _ up

-- a test of the link of a number may ask the number first
pub asked_of_number : (p : LinkPeer → Bool) (from to : ℕ) (links : List LinkPeer) →
    option_map_or (λ l. not (l.link.0 == from) && p l) (link_at links to) false ≡ (not (to == from) && option_map_or p (link_at links to) false)
asked_of_number p from to [] = by (to == from)
  where
    by : (b : Bool) → false ≡ (not b && false)
    by true = refl
    by false = refl
asked_of_number p from to (l ∷ links) = by (l.link.0 == to) refl (asked_of_number p from to links)
  where
    by : (b : Bool) → (l.link.0 == to) ≡ b
        → option_map_or (λ k. not (k.link.0 == from) && p k) (link_at links to) false ≡ (not (to == from) && option_map_or p (link_at links to) false)
        → option_map_or (λ k. not (k.link.0 == from) && p k) (cond b (Some l) (link_at links to)) false
        ≡ (not (to == from) && option_map_or p (cond b (Some l) (link_at links to)) false)
    by true e ih = ap (λ n. not (n == from) && p l) (eqb-true l.link.0 to e)
    by false e ih = ih

-- ---- all links

-- what is found has the number
pub found_number : (links : List LinkPeer) (n : ℕ) (l : LinkPeer) → link_at links n ≡ Some l → l.link.0 ≡ n
found_number [] n l h = cc
found_number (k ∷ links) n l h = by (k.link.0 == n) refl h (found_number links n l)
  where
    by : (b : Bool) → (k.link.0 == n) ≡ b → cond b (Some k) (link_at links n) ≡ Some l → (link_at links n ≡ Some l → l.link.0 ≡ n) → l.link.0 ≡ n
    by true e h ih = let same : k ≡ l = cc in ap (λ z. z.link.0) (sym same) ∙ eqb-true k.link.0 n e
    by false e h ih = ih h

-- of links that ascend each is the one of its number, behind any that are below them
numbers_behind : (front links : List LinkPeer) → AreAscending links → AllByRecursion (λ l. AllByRecursion (λ k. (k.link.0 == l.link.0) ≡ false) front) links
    → AllByRecursion (λ l. link_at (front ++ links) l.link.0 ≡ Some l) links
numbers_behind front [] up h = tt
numbers_behind front (l ∷ links) up h = (
  found front h.0,
  subst (λ ls. AllByRecursion (λ k. link_at ls k.link.0 ≡ Some k) links) (append_assoc front (l ∷ []) links)
      (numbers_behind (front ++ l ∷ []) links (ascending_behind l links up) (behind links (sorted_head nat_cmp _ _ up) h.1)),
)
  where
    found : (front : List LinkPeer) → AllByRecursion (λ k. (k.link.0 == l.link.0) ≡ false) front → link_at (front ++ l ∷ links) l.link.0 ≡ Some l
    found [] h = rw (eq-eqb l.link.0 l.link.0 refl) refl
    found (k ∷ front) h = rw h.0 (found front h.1)

    below_differs : (m : ℕ) → nat_cmp l.link.0 m ≡ Less → (l.link.0 == m) ≡ false
    below_differs m less =
        false_from_ne_true (l.link.0 == m) (λ t.
        let e : l.link.0 ≡ m = eqb-true l.link.0 m t in
        let tied : nat_cmp l.link.0 m ≡ Equal = ap (λ z. nat_cmp z m) e ∙ tied_itself nat_cmp_total m in
        cc)

    behind : (ls : List LinkPeer) → AllByRecursion (λ m. nat_cmp l.link.0 m ≡ Less) (map (λ k. k.link.0) ls)
        → AllByRecursion (λ j. AllByRecursion (λ k. (k.link.0 == j.link.0) ≡ false) front) ls
        → AllByRecursion (λ j. AllByRecursion (λ k. (k.link.0 == j.link.0) ≡ false) (front ++ l ∷ [])) ls
    behind [] less h = tt
    behind (j ∷ ls) less h = (All-append _ front (l ∷ []) h.0 (below_differs j.link.0 less.0, tt), behind ls less.1 h.1)

pub numbers_of : (links : List LinkPeer) → AreAscending links → AllByRecursion (λ l. link_at links l.link.0 ≡ Some l) links
numbers_of links up = numbers_behind [] links up (nothing links)
  where
    nothing : (ls : List LinkPeer) → AllByRecursion (λ l. AllByRecursion {X = LinkPeer} (λ k. (k.link.0 == l.link.0) ≡ false) []) ls
    nothing [] = tt
    nothing (l ∷ ls) = (tt, nothing ls)

-- ---- neighbours

-- what a test finds passes it
pub find_passes : {X : Type 0} (p : X → Bool) (xs : List X) (x : X) → find p xs ≡ Some x → p x ≡ true
find_passes p [] x h = cc
find_passes p (y ∷ xs) x h = by (p y) refl h (find_passes p xs x)
  where
    by : (b : Bool) → p y ≡ b → cond b (Some y) (find p xs) ≡ Some x → (find p xs ≡ Some x → p x ≡ true) → p x ≡ true
    by true e h ih = let same : y ≡ x = cc in ap p (sym same) ∙ e
    by false e h ih = ih h

-- where nothing is found, no element passes
pub none_passes : {X : Type 0} (p : X → Bool) (xs : List X) → find p xs ≡ None → AllByRecursion (λ x. p x ≡ false) xs
none_passes p [] h = tt
none_passes p (x ∷ xs) h = by (p x) refl h (none_passes p xs)
  where
    by : (b : Bool) → p x ≡ b → cond b (Some x) (find p xs) ≡ None → (find p xs ≡ None → AllByRecursion (λ y. p y ≡ false) xs) → AllByRecursion (λ y. p y ≡ false) (x ∷ xs)
    by true e h ih = absurd (none-some x (sym h))
    by false e h ih = (e, ih h)

-- an element that does not pass may be put anywhere
pub find_beside : {X : Type 0} (p : X → Bool) (front : List X) (x : X) (back : List X) → p x ≡ false → find p (front ++ x ∷ back) ≡ find p (front ++ back)
find_beside p [] x back e = rw e refl
find_beside p (y ∷ front) x back e = by (p y) (find_beside p front x back e)
  where
    by : (b : Bool) → find p (front ++ x ∷ back) ≡ find p (front ++ back) → cond b (Some y) (find p (front ++ x ∷ back)) ≡ cond b (Some y) (find p (front ++ back))
    by true ih = refl
    by false ih = ih

-- and one that passes is found where none before it does
pub find_here : {X : Type 0} (p : X → Bool) (front : List X) (x : X) (back : List X) → AllByRecursion (λ y. p y ≡ false) front → p x ≡ true → find p (front ++ x ∷ back) ≡ Some x
find_here p [] x back h e = rw e refl
find_here p (y ∷ front) x back h e = rw h.0 (find_here p front x back h.1 e)

-- where no link has a number, neither the first nor any behind it has
none_of_rest : (l : LinkPeer) (links : List LinkPeer) (n : ℕ) → link_at (l ∷ links) n ≡ None → ((l.link.0 == n) ≡ false) × (link_at links n ≡ None)
none_of_rest l links n none = by (l.link.0 == n) refl none
  where
    by : (b : Bool) → (l.link.0 == n) ≡ b → cond b (Some l) (link_at links n) ≡ None → ((l.link.0 == n) ≡ false) × (link_at links n ≡ None)
    by true e h = absurd (none-some l (sym h))
    by false e h = (e, h)

-- links that ascend are those below a number and those above it, if none has it
pub parted_links : (links : List LinkPeer) (n : ℕ) → AreAscending links → link_at links n ≡ None
    → filter (λ k. nat_lt k.link.0 n) links ++ filter (λ k. nat_lt n k.link.0) links ≡ links
parted_links [] n up none = refl
parted_links (l ∷ links) n up none = by (nat_lt l.link.0 n) (nat_lt n l.link.0) refl refl (parted_links links n (ascending_behind l links up) ((none_of_rest l links n none).1))
  where
    absent : (l.link.0 == n) ≡ false
    absent = (none_of_rest l links n none).0

    above : (ls : List LinkPeer) → n < l.link.0 → AllByRecursion (λ m. nat_cmp l.link.0 m ≡ Less) (map (λ k. k.link.0) ls)
        → (filter (λ k. nat_lt k.link.0 n) ls ≡ []) × (filter (λ k. nat_lt n k.link.0) ls ≡ ls)
    above [] less h = (refl, refl)
    above (k ∷ ls) less h =
        let more : l.link.0 < k.link.0 = ranked l.link.0 k.link.0 Less (sym h.0) in
        let ih = above ls less h.1 in
        let no : nat_lt k.link.0 n ≡ false = false_from_ne_true (nat_lt k.link.0 n) (λ t. let u : k.link.0 < n = ltb-true k.link.0 n t in absurd (omega arith)) in
        let yes : nat_lt n k.link.0 ≡ true = lt-ltb n k.link.0 (omega arith) in
        (rw no ih.0, rw yes (ap (λ zs. k ∷ zs) ih.1))

    by : (a b : Bool) → nat_lt l.link.0 n ≡ a → nat_lt n l.link.0 ≡ b → filter (λ k. nat_lt k.link.0 n) links ++ filter (λ k. nat_lt n k.link.0) links ≡ links
        → cond a (l ∷ filter (λ k. nat_lt k.link.0 n) links) (filter (λ k. nat_lt k.link.0 n) links)
        ++ cond b (l ∷ filter (λ k. nat_lt n k.link.0) links) (filter (λ k. nat_lt n k.link.0) links) ≡ l ∷ links
    by true true e f ih = let u = ltb-true l.link.0 n e in let v = ltb-true n l.link.0 f in absurd (omega (arith, u, v))
    by true false e f ih = ap (λ zs. l ∷ zs) ih
    by false true e f ih =
        let m : n < l.link.0 = ltb-true n l.link.0 f in
        let h = above links m (sorted_head nat_cmp _ _ up) in
        rw (h.0, h.1) refl
    by false false e f ih = absurd (true≢false (sym (eq-eqb l.link.0 n (omega (arith, not_less l.link.0 n e, not_less n l.link.0 f))) ∙ absent))
      where
        not_less : (x y : ℕ) → nat_lt x y ≡ false → y ≤ x
        not_less x y e = omega (arith, ltb-false x y e)

-- whether a look-up found a client's link
abbrev pub is_client : Option LinkPeer → Bool
is_client o = option_map_or (λ l. not (is_router l.peer.role)) o false
