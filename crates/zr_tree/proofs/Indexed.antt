-- Routers by their indexes: each has one name, and no two have the same.
use Rattle.std.proofs.Common.{◌≡◌, ℕ, ◌<◌, Bool, true, false, ◌&&◌, List, [], Less, All, inl, inr, None, length, refl, sym, ap, ◌∙◌, subst, arith}
use Rattle.std.specs.Cmp.Lexicographic.{slice_cmp}
use Rattle.std.specs.Ordering.{nat_cmp}
use Rattle.std.proofs.lemmas.Bool.{false≢true, cases_order}
use Rattle.std.proofs.lemmas.List.{length-map}
use Rattle.std.proofs.lemmas.Map.Keys.{Less-from_sorted}
use Rattle.zr_id.specs.Record.{RecordState}
use Rattle.zr_id.specs.Zid.{is_named}
use Rattle.zr_graph.specs.Record.{ids, has, has_edge, lists, record_of, IsAscending}
use Rattle.zr_graph.proofs.Names.{same_refl, comes}
use Rattle.zr_tree_parents.specs.declared.row.Neighbour.{Neighbour}
use Rattle.zr_tree.specs.Index.{name}
use Rattle.zr_lists.proofs.Finds.{In, any_none, none_find, map_in, place_in, in_place}

-- an edge leads both ways
pub joined_back : (rs : List RecordState) (x y : List ℕ) → has_edge rs x y ≡ true → has_edge rs y x ≡ true
joined_back rs x y h = flip (lists rs x y) (lists rs y x) h
  where
    flip : (a b : Bool) → (a && b) ≡ true → (b && a) ≡ true
    flip true true h = refl
    flip true false h = h
    flip false true h = h
    flip false false h = h

-- ---- indexes and names

pub name_in : (rs : List RecordState) (i : ℕ) → i < length rs → In (name rs i) (ids rs)
name_in rs i lt = let n : i < length (ids rs) = omega (arith, length-map rs (λ (r : RecordState). r.id)) in place_in (ids rs) i [] n

pub in_name : (rs : List RecordState) (x : List ℕ) → In x (ids rs) → (i : ℕ) × (i < length rs) × (name rs i ≡ x)
in_name rs x h = let f = in_place (ids rs) x [] h in (f.0, omega (arith, f.1, length-map rs (λ (r : RecordState). r.id)), f.2)

-- no two indexes have one name
pub one_index : (rs : List RecordState) (i j : ℕ) → IsAscending (ids rs) → i < length rs → j < length rs → name rs i ≡ name rs j → i ≡ j
one_index rs i j up a b e =
    let m : length (ids rs) ≡ length rs = length-map rs (λ (r : RecordState). r.id) in
    elim (cases_order i j) [
      | inl s ↦ s
      | inr (inl l) ↦ absurd (apart i j e (Less-from_sorted (slice_cmp nat_cmp) (ids rs) i j [] up l (omega arith)))
      | inr (inr l) ↦ absurd (apart j i (sym e) (Less-from_sorted (slice_cmp nat_cmp) (ids rs) j i [] up l (omega arith)))
    ]
  where
    apart : (k l : ℕ) → name rs k ≡ name rs l → slice_cmp nat_cmp (name rs k) (name rs l) ≡ Less → ⊥
    apart k l e less =
        let c = comes (name rs k) (name rs l) less in
        false≢true (sym (c.apart) ∙ ap (λ z. is_named (name rs k) z) (sym e) ∙ same_refl (name rs k))

-- what holds of all edges of a row holds of one
pub of_all : (P : Neighbour → Type 0) (ns : List Neighbour) (n : Neighbour) → All P ns → In n ns → P n
of_all P ns n all h = let f = in_place ns n n h in subst P f.2 (all f.0 n f.1)

-- who is none of the routers has no record
pub record_none : (rs : List RecordState) (x : List ℕ) → has (ids rs) x ≡ false → record_of rs x ≡ None
record_none rs x h = none_find (λ r. is_named r.id x) rs (λ r i. any_none (λ y. is_named y x) (ids rs) r.id h (map_in (λ (q : RecordState). q.id) rs r i))
