-- Who asked keeps the request until it is sent the final: what the end of a branch makes of that.
use Rattle.std.proofs.Common.{◌≡◌, suc, length, arith, ◌==◌, ◌&&◌, ◌||◌, not, Bool, true, false, cond, List, [], ◌∷◌, filter, Option, Some, None, refl, sym, ap, ◌∙◌}
use Rattle.std.specs.List.{list_any, find}
use Rattle.std.specs.Option.{option_map, option_map_or, option_and_then}
use Rattle.std.proofs.lemmas.Bool.{eqb-true, eq-eqb, false_from_ne_true, false≢true, and_from, or_left, or_right}
use Rattle.zr_pend_spec.specs.declared.branch.Asker.{Asker}
use Rattle.zr_pend_spec.specs.declared.branch.Branch.{Branch}
use Rattle.zr_pend_spec.specs.Row.{RowState, is_branch, has, is_asked_by}
use Rattle.zr_pend_spec.specs.Pending.{asked, are_distinct, branches, finished, final_to, IsSound}
use Rattle.zr_pend_spec.specs.Readings.{back, row_of, but_for, final_if_none}
use Rattle.zr_pend_spec.proofs.Branches.{distinct_behind, distinct_apart}
use Rattle.zr_pend_spec.proofs.Sound.{any_branch}
use Rattle.zr_pend_spec.proofs.OneRow.{none_found}
use Rattle.zr_pend_spec.proofs.Readings.{in_row, finished_is}
use Rattle.zr_pend_spec.proofs.ReadingsOfDrop.{kept_is, is_who}
use Rattle.zr_lists.proofs.Parts.{and_left, and_right, left_false}

-- ---- askers

pub who_is : (a z : Asker) → (z.link.0 == a.link.0 && z.number == a.number) ≡ true → z ≡ a
who_is a z e =
    let e0 : z.link.0 ≡ a.link.0 = eqb-true z.link.0 a.link.0 (and_left _ _ e) in
    let e1 : z.number ≡ a.number = eqb-true z.number a.number (and_right _ _ e) in
    λ i. record { link = record { 0 = e0 i }; number = e1 i }

pub who_itself : (a : Asker) → is_who a (Some a) ≡ true
who_itself a = and_from _ _ (eq-eqb a.link.0 a.link.0 refl) (eq-eqb a.number a.number refl)

at_who : (a : Asker) (o : Option Asker) → is_who a o ≡ true → o ≡ Some a
at_who a None e = absurd (false≢true e)
at_who a (Some z) e = ap (λ x. Some x) (who_is a z e)

-- the asker of a row that is found keeps a request
pub found_asked : (p : RowState → Bool) (rows : List RowState) (a : Asker) → option_and_then (λ (r : RowState). r.asker) (find p rows) ≡ Some a → asked a rows ≡ true
found_asked p [] a e = cc
found_asked p (r ∷ rows) a e = by (p r) e (found_asked p rows a)
  where
    by : (t : Bool) → option_and_then (λ (x : RowState). x.asker) (cond t (Some r) (find p rows)) ≡ Some a →
        (option_and_then (λ (x : RowState). x.asker) (find p rows) ≡ Some a → asked a rows ≡ true) → (is_asked_by a r || asked a rows) ≡ true
    by true k ih = or_left _ _ (ap (λ o. is_who a o) k ∙ who_itself a)
    by false k ih = or_right _ _ (ih k)

-- ---- a branch that stands in the row of who asked is pending for who asked

pub pending_for : (rows : List RowState) (b : Branch) (a : Asker) → are_distinct (branches rows) ≡ true → list_any (λ c. is_branch b c) (row_of a rows) ≡ true → back rows b ≡ Some (Some a)
pending_for [] b a d h = cc
pending_for (r ∷ rows) b a d h = by (has b r) refl (is_asked_by a r) refl h (pending_for rows b a (distinct_behind r.branches (branches rows) d))
  where
    none : has b r ≡ true → back rows b ≡ None
    none e = ap (λ o. option_map (λ (x : RowState). x.asker) o) (none_found b rows (sym (any_branch b rows) ∙ distinct_apart r.branches (branches rows) b d e))

    by : (t : Bool) → has b r ≡ t → (u : Bool) → is_asked_by a r ≡ u →
        list_any (λ c. is_branch b c) (option_map_or (λ (x : RowState). x.branches) (cond u (Some r) (find (λ x. is_asked_by a x) rows)) []) ≡ true →
        (list_any (λ c. is_branch b c) (row_of a rows) ≡ true → back rows b ≡ Some (Some a)) →
        option_map (λ (x : RowState). x.asker) (cond t (Some r) (find (λ x. has b x) rows)) ≡ Some (Some a)
    by true e true f k ih = ap (λ o. Some o) (at_who a r.asker f)
    by true e false f k ih = let no = none e in let yes = ih k in cc
    by false e true f k ih = absurd (false≢true (sym e ∙ k))
    by false e false f k ih = ih k

-- ---- the end of a branch

-- some branch is left where none of some is the one that ended
some_left : (p : Branch → Bool) (bs : List Branch) → list_any p bs ≡ false → (length bs == 0) ≡ false → (length (filter (λ c. not (p c)) bs) == 0) ≡ false
some_left p [] e k = k
some_left p (c ∷ cs) e k = rw (left_false (p c) (list_any p cs) e) (false_from_ne_true _ (λ t. let z : suc (length (filter (λ d. not (p d)) cs)) ≡ 0 = eqb-true _ 0 t in absurd (omega arith)))

-- who gets the final of a branch that is pending for this one
abbrev final_of : List RowState → Branch → Option (Option Asker) → Option Asker
final_of rows b o = option_and_then (λ q. option_and_then (λ a. final_if_none (but_for b (row_of a rows)) a) q) o

-- the request is kept unless its asker gets the final
pub kept_finished : (rows : List RowState) (b : Branch) (a : Asker) → IsSound rows → asked a (finished rows b) ≡ (asked a rows && not (is_who a (final_to rows b)))
kept_finished rows b a s = (finished_is rows b s).kept a ∙ by (asked a rows) refl (list_any (λ c. is_branch b c) (row_of a rows)) refl
  where
    said : is_who a (final_to rows b) ≡ is_who a (final_of rows b (back rows b))
    said = ap (λ o. is_who a o) (finished_is rows b s).final

    last : (t : Bool) → is_who a (cond t (Some a) None) ≡ t
    last true = who_itself a
    last false = refl

    other : (o : Option (Option Asker)) → back rows b ≡ o → list_any (λ c. is_branch b c) (row_of a rows) ≡ false → is_who a (final_of rows b o) ≡ false
    other None e k = refl
    other (Some None) e k = refl
    other (Some (Some z)) e k = each (length (but_for b (row_of z rows)) == 0)
      where
        each : (t : Bool) → is_who a (cond t (Some z) None) ≡ false
        each true = false_from_ne_true _ (λ t. absurd (false≢true (sym k ∙ in_row rows b a s.askers (e ∙ ap (λ x. Some (Some x)) (who_is a z t)))))
        each false = refl

    by : (t : Bool) → asked a rows ≡ t → (v : Bool) → list_any (λ c. is_branch b c) (row_of a rows) ≡ v →
        (t && not (length (but_for b (row_of a rows)) == 0)) ≡ (t && not (is_who a (final_to rows b)))
    by false e v f = refl
    by true e true f = ap not (sym (said ∙ ap (λ o. is_who a (final_of rows b o)) (pending_for rows b a s.distinct f) ∙ last (length (but_for b (row_of a rows)) == 0)))
    by true e false f =
        let some : not (length (row_of a rows) == 0) ≡ true = sym (kept_is a rows s.pending) ∙ e in
        ap not (some_left (λ c. is_branch b c) (row_of a rows) f (not_is _ some) ∙ sym (said ∙ other (back rows b) refl f))
      where
        not_is : (x : Bool) → not x ≡ true → x ≡ false
        not_is true k = cc
        not_is false k = refl
