-- The rows of a link stand together: those between two places of a search.
use Rattle.std.proofs.Common.{◌≡◌, ℕ, ◌+◌, ◌-◌, ◌<◌, ◌≤◌, ◌==◌, nat_lt, nat_le, zero, suc, true, false, List, [], ◌∷◌, Ordering, Less, Equal, Greater, length, take, drop, get_or, inl, inr, refl, sym, ap, ◌∙◌, arith}
use Rattle.std.specs.Cmp.{ranked}
use Rattle.std.specs.List.{AllWithin}
use Rattle.std.specs.List.Sorted.{IsNonDecreasingBy, IsPartitionPoint}
use Rattle.std.specs.Ordering.{nat_cmp, ordering_then}
use Rattle.std.proofs.Math.Seq.{take-length}
use Rattle.std.proofs.lemmas.Bool.{cases_lt, eqb-true, eq-eqb, ltb-true, ltb-false, leb-true, leb-false, lt-ltb, le-ltb, le-leb, lt-leb, false_from_ne_true}
use Rattle.std.proofs.lemmas.List.{length-drop}
use Rattle.std.proofs.lemmas.Map.Keys.{Less-from_sorted}
use Rattle.std.proofs.lemmas.Map.Lookups.{exact_unsigned}
use Rattle.zr_local.specs.Owners.{on_link}
use Rattle.zr_local.specs.Rows.{AreInOrder, key_cmp, row_key, id_kind}
use Rattle.zr_local.specs.declared.row.Row.{Row}

-- a row is of no earlier link than one before it
link_le : (a b : Row) → key_cmp (row_key a) (row_key b) ≡ Less → a.link.0 ≤ b.link.0
link_le a b h = by (nat_cmp a.link.0 b.link.0) refl h
  where
    by : (r : Ordering) → nat_cmp a.link.0 b.link.0 ≡ r → ordering_then r (ordering_then (nat_cmp (id_kind a.decl.kind) (id_kind b.decl.kind)) (nat_cmp a.id b.id)) ≡ Less → a.link.0 ≤ b.link.0
    by Less e t = let u : a.link.0 < b.link.0 = ranked a.link.0 b.link.0 Less (sym e) in omega arith
    by Equal e t = let u : a.link.0 ≡ b.link.0 = exact_unsigned _ _ e in omega arith
    by Greater e t = cc

pub links_rise : (rows : List Row) → AreInOrder rows → IsNonDecreasingBy (λ r. r.link.0) rows
links_rise rows up i j d le lt = elim (cases_lt i j) [
  | inl l ↦ link_le (get_or rows i d) (get_or rows j d) (Less-from_sorted (λ (y z : Row). key_cmp (row_key y) (row_key z)) rows i j d up l lt)
  | inr g ↦ let e : i ≡ j = omega arith in rw e (omega arith)
]

-- what holds of all from a place on holds of all that is left there
shifted : (Q : Row → Type 0) (rows : List Row) (i : ℕ) → AllWithin Q rows i (length rows) → AllWithin Q (drop i rows) 0 (length (drop i rows))
shifted Q rows zero h = h
shifted Q [] (suc i) h = λ k d a b. absurd (omega arith)
shifted Q (r ∷ rows) (suc i) h = shifted Q rows i (λ k d a b. h (suc k) d (omega arith) (omega arith))

module _ (link : ℕ) where
  lower : (r : Row) → nat_lt r.link.0 link ≡ true → (r.link.0 == link) ≡ false
  lower r h = false_from_ne_true (r.link.0 == link) (λ t. let u : r.link.0 < link = ltb-true r.link.0 link h in let e : r.link.0 ≡ link = eqb-true r.link.0 link t in absurd (omega arith))

  higher : (r : Row) → nat_le r.link.0 link ≡ false → (r.link.0 == link) ≡ false
  higher r h = false_from_ne_true (r.link.0 == link) (λ t. let u : link < r.link.0 = leb-false r.link.0 link h in let e : r.link.0 ≡ link = eqb-true r.link.0 link t in absurd (omega arith))

  same : (r : Row) → nat_lt r.link.0 link ≡ false → nat_le r.link.0 link ≡ true → (r.link.0 == link) ≡ true
  same r h k =
      let u : link ≤ r.link.0 = ltb-false r.link.0 link h in
      let v : r.link.0 ≤ link = leb-true r.link.0 link k in
      eq-eqb r.link.0 link (omega arith)

  none_before : (rows : List Row) (i : ℕ) → i ≤ length rows → AllWithin (λ r. nat_lt r.link.0 link ≡ true) rows 0 i → on_link rows link ≡ on_link (drop i rows) link
  none_before rows zero le h = refl
  none_before [] (suc i) le h = absurd (omega arith)
  none_before (r ∷ rows) (suc i) le h =
      rw (lower r (h 0 r (omega arith) (omega arith))) (none_before rows i (omega arith) (λ k d a b. h (suc k) d (omega arith) (omega arith)))

  first_ones : (rows : List Row) (j : ℕ) → AllWithin (λ r. nat_lt r.link.0 link ≡ false) rows 0 (length rows) → AllWithin (λ r. nat_le r.link.0 link ≡ true) rows 0 j
      → AllWithin (λ r. nat_le r.link.0 link ≡ false) rows j (length rows) → on_link rows link ≡ take j rows
  first_ones [] zero low in_ out = refl
  first_ones [] (suc j) low in_ out = refl
  first_ones (r ∷ rows) zero low in_ out =
      rw (higher r (out 0 r (omega arith) (omega arith)))
      (first_ones rows 0 (λ k d a b. low (suc k) d (omega arith) (omega arith)) (λ k d a b. absurd (omega arith)) (λ k d a b. out (suc k) d (omega arith) (omega arith)))
  first_ones (r ∷ rows) (suc j) low in_ out =
      rw (same r (low 0 r (omega arith) (omega arith)) (in_ 0 r (omega arith) (omega arith)))
      (ap (λ (rs : List Row). r ∷ rs)
      (first_ones rows j (λ k d a b. low (suc k) d (omega arith) (omega arith)) (λ k d a b. in_ (suc k) d (omega arith) (omega arith)) (λ k d a b. out (suc k) d (omega arith) (omega arith))))

  -- those of the link are the ones between the two places
  pub between : (rows : List Row) (i j : ℕ) → i ≤ length rows → IsPartitionPoint (λ r. nat_lt r.link.0 link ≡ true) (λ r. nat_lt r.link.0 link ≡ false) rows i
      → IsPartitionPoint (λ r. nat_le r.link.0 link ≡ true) (λ r. nat_le r.link.0 link ≡ false) (drop i rows) j → on_link rows link ≡ take j (drop i rows)
  between rows i j le p q = none_before rows i le p.0 ∙ first_ones (drop i rows) j (shifted (λ r. nat_lt r.link.0 link ≡ false) rows i p.1) q.0 q.1

-- a place at which the rows of the link and of later ones begin
pub first_place : (rows : List Row) (link i : ℕ) → AreInOrder rows → ((d : Row) → i < length rows → link ≤ (get_or rows i d).link.0)
    → (0 < i → (i - 1 < length rows) × ((d : Row) → (get_or rows (i - 1) d).link.0 < link))
    → IsPartitionPoint (λ r. nat_lt r.link.0 link ≡ true) (λ r. nat_lt r.link.0 link ≡ false) rows i
first_place rows link i up here lower = (before, behind)
  where
    before : AllWithin (λ r. nat_lt r.link.0 link ≡ true) rows 0 i
    before k d a b =
        let low = lower (omega arith) in
        let le = links_rise rows up k (i - 1) d (omega arith) low.0 in
        let lt = low.1 d in
        lt-ltb _ _ (omega (arith, le, lt))

    behind : AllWithin (λ r. nat_lt r.link.0 link ≡ false) rows i (length rows)
    behind k d a b =
        let le = links_rise rows up i k d a b in
        let at = here d (omega arith) in
        le-ltb _ _ (omega (arith, le, at))

-- a place behind rows of no later link, at which those of later ones begin
pub last_place : (rows : List Row) (link i : ℕ) → IsNonDecreasingBy (λ r. r.link.0) rows → AllWithin (λ r. nat_le r.link.0 link ≡ true) rows 0 i
    → ((d : Row) → i < length rows → link < (get_or rows i d).link.0) → IsPartitionPoint (λ r. nat_le r.link.0 link ≡ true) (λ r. nat_le r.link.0 link ≡ false) rows i
last_place rows link i up before higher = (before, behind)
  where
    behind : AllWithin (λ r. nat_le r.link.0 link ≡ false) rows i (length rows)
    behind k d a b =
        let le = up i k d a b in
        let at = higher d (omega arith) in
        lt-leb _ _ (omega (arith, le, at))

-- one row more is of no later link
pub front_more : (rows : List Row) (link i : ℕ) → AllWithin (λ r. nat_le r.link.0 link ≡ true) rows 0 i → ((d : Row) → (get_or rows i d).link.0 ≤ link)
    → AllWithin (λ r. nat_le r.link.0 link ≡ true) rows 0 (i + 1)
front_more rows link i before here k d a b = elim (cases_lt k i) [
  | inl l ↦ before k d a l
  | inr g ↦ let e : k ≡ i = omega arith in rw e (le-leb _ _ (here d))
]

-- the whole of what is left
pub rest_of : {X : Type 0} (i : ℕ) (xs : List X) → take (length xs - i) (drop i xs) ≡ drop i xs
rest_of i xs = ap (λ n. take n (drop i xs)) (sym (length-drop i xs)) ∙ take-length (drop i xs)
