-- How often declarations are noted, once one is noted once more or once less.
use Rattle.std.proofs.Common.{◌≡◌, ℕ, ◌+◌, ◌-◌, ◌≤◌, nat_lt, List, Bool, true, false, cond, Option, Some, None, get_or, set, refl, sym, ap, ◌∙◌, arith}
use Rattle.std.specs.List.{insert, remove}
use Rattle.std.specs.Option.{option_map_or}
use Rattle.std.proofs.lemmas.Bool.{ltb-false}
use Rattle.std.proofs.lemmas.Option.{slice_get-get_or}
use Rattle.zr_msg.specs.Decl.{decl_cmp}
use Rattle.zr_msg.specs.declared.decl.Decl.{Decl}
use Rattle.zr_lists.specs.Ascending.{IsAscending, at_key, put, without}
use Rattle.zr_log_set.specs.Decls.{is_decl}
use Rattle.zr_lists.specs.Place.{IsAt, IsGap}
use Rattle.zr_log_set.proofs.Decls.{decl_order}
use Rattle.zr_lists.proofs.Order.{is_same}
use Rattle.zr_lists.proofs.Puts.{ascending_put, ascending_without, at-put, at-without, put_at, put_in, removed_at}
use Rattle.zr_local.specs.declared.owners.Owned.{Owned}
use Rattle.zr_local.specs.Owners.{owned_decl, count_of, once_more, once_less, one}

pub ascending_more : (os : List Owned) (d : Decl) → IsAscending decl_cmp owned_decl os → IsAscending decl_cmp owned_decl (once_more os d)
ascending_more os d up = ascending_put decl_cmp owned_decl decl_order os (record { decl = d; count = count_of os d + 1 }) up

pub ascending_less : (os : List Owned) (d : Decl) → IsAscending decl_cmp owned_decl os → IsAscending decl_cmp owned_decl (once_less os d)
ascending_less os d up = by_test (nat_lt 1 (count_of os d))
  where
    by_test : (t : Bool) → IsAscending decl_cmp owned_decl (cond t (put decl_cmp owned_decl os (record { decl = d; count = count_of os d - 1 })) (without decl_cmp owned_decl os d))
    by_test true = ascending_put decl_cmp owned_decl decl_order os (record { decl = d; count = count_of os d - 1 }) up
    by_test false = ascending_without decl_cmp owned_decl decl_order os d up

-- what stands at the place of a declaration
here : (os : List Owned) (d : Decl) (i : ℕ) (x : Owned) → IsAt decl_cmp owned_decl os d i → (get_or os i x).count ≡ count_of os d
here os d i x h =
    let f : at_key decl_cmp owned_decl os d ≡ Some (get_or os i x) = h.found ∙ slice_get-get_or os i x h.within in
    sym (ap (λ (o : Option Owned). option_map_or (λ y. y.count) o 0) f)

pub raised : (os : List Owned) (d : Decl) (i : ℕ) (x : Owned) (news : List Owned) → IsAt decl_cmp owned_decl os d i →
    news ≡ set os i (record { decl = (get_or os i x).decl; count = (get_or os i x).count + 1 }) → news ≡ once_more os d
raised os d i x news h e =
    let s : (get_or os i x).decl ≡ d = h.key_is x in
    let n : (get_or os i x).count ≡ count_of os d = here os d i x h in
    let l : news ≡ set os i (record { decl = d; count = count_of os d + 1 }) = e ∙ (λ j. set os i (record { decl = s j; count = n j + 1 })) in
    l ∙ put_at decl_cmp owned_decl decl_order os (record { decl = d; count = count_of os d + 1 }) i h

pub lowered : (os : List Owned) (d : Decl) (i : ℕ) (x : Owned) (news : List Owned) → IsAt decl_cmp owned_decl os d i →
    news ≡ cond (nat_lt 1 (get_or os i x).count) (set os i (record { decl = (get_or os i x).decl; count = (get_or os i x).count - 1 })) (remove os i) → news ≡ once_less os d
lowered os d i x news h e =
    let s : (get_or os i x).decl ≡ d = h.key_is x in
    let n : (get_or os i x).count ≡ count_of os d = here os d i x h in
    let l : news ≡ cond (nat_lt 1 (count_of os d)) (set os i (record { decl = d; count = count_of os d - 1 })) (remove os i) =
    e ∙ (λ j. cond (nat_lt 1 (n j)) (set os i (record { decl = s j; count = n j - 1 })) (remove os i)) in
    l ∙ by_test (nat_lt 1 (count_of os d))
  where
    by_test : (t : Bool) → cond t (set os i (record { decl = d; count = count_of os d - 1 })) (remove os i) ≡
        cond t (put decl_cmp owned_decl os (record { decl = d; count = count_of os d - 1 })) (without decl_cmp owned_decl os d)
    by_test true = put_at decl_cmp owned_decl decl_order os (record { decl = d; count = count_of os d - 1 }) i h
    by_test false = removed_at decl_cmp owned_decl decl_order os d i h

pub ascending_inserted : (os : List Owned) (d : Decl) (i : ℕ) → IsGap decl_cmp owned_decl os d i → IsAscending decl_cmp owned_decl os → IsAscending decl_cmp owned_decl (insert os i (record { decl = d; count = 1 }))
ascending_inserted os d i h up =
    rw (put_in decl_cmp owned_decl decl_order os (record { decl = d; count = 1 }) i h) (ascending_put decl_cmp owned_decl decl_order os (record { decl = d; count = 1 }) up)

pub count-more : (os : List Owned) (d e : Decl) → count_of (once_more os d) e ≡ count_of os e + one d e
count-more os d e =
    ap (λ (o : Option Owned). option_map_or (λ y. y.count) o 0) (at-put decl_cmp owned_decl decl_order os (record { decl = d; count = count_of os d + 1 }) e)
    ∙ by_test (is_decl d e) refl
  where
    by_test : (t : Bool) → is_decl d e ≡ t → option_map_or (λ y. y.count) (cond t (Some (record { decl = d; count = count_of os d + 1 })) (at_key decl_cmp owned_decl os e)) 0 ≡ count_of os e + cond t 1 0
    by_test true h = ap (λ (x : Decl). count_of os x + 1) (is_same decl_cmp decl_order d e h)
    by_test false h = omega arith

pub count-less : (os : List Owned) (d e : Decl) → count_of (once_less os d) e ≡ count_of os e - one d e
count-less os d e = by_count (nat_lt 1 (count_of os d)) refl
  where
    put_test : (t : Bool) → is_decl d e ≡ t → option_map_or (λ y. y.count) (cond t (Some (record { decl = d; count = count_of os d - 1 })) (at_key decl_cmp owned_decl os e)) 0 ≡ count_of os e - cond t 1 0
    put_test true h = ap (λ (x : Decl). count_of os x - 1) (is_same decl_cmp decl_order d e h)
    put_test false h = omega arith

    out_test : (t : Bool) → count_of os d ≤ 1 → is_decl d e ≡ t → option_map_or (λ y. y.count) (cond t None (at_key decl_cmp owned_decl os e)) 0 ≡ count_of os e - cond t 1 0
    out_test true le h =
        let i : d ≡ e = is_same decl_cmp decl_order d e h in
        let same : count_of os d ≡ count_of os e = ap (λ (x : Decl). count_of os x) i in
        omega (arith, same, le)
    out_test false le h = omega arith

    by_count : (t : Bool) → nat_lt 1 (count_of os d) ≡ t →
        count_of (cond t (put decl_cmp owned_decl os (record { decl = d; count = count_of os d - 1 })) (without decl_cmp owned_decl os d)) e ≡ count_of os e - one d e
    by_count true h =
        ap (λ (o : Option Owned). option_map_or (λ y. y.count) o 0) (at-put decl_cmp owned_decl decl_order os (record { decl = d; count = count_of os d - 1 }) e)
        ∙ put_test (is_decl d e) refl
    by_count false h =
        ap (λ (o : Option Owned). option_map_or (λ y. y.count) o 0) (at-without decl_cmp owned_decl decl_order os d e)
        ∙ out_test (is_decl d e) (ltb-false 1 (count_of os d) h) refl
