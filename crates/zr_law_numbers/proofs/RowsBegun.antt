-- What the begin of a request makes of the numbers of one link: where the request goes over the link the least free number is pending for who asked.
use Rattle.std.proofs.Common.{◌≡◌, ℕ, ◌==◌, ◌&&◌, ◌||◌, Bool, true, false, cond, List, [], ◌∷◌, Some, None, refl, sym, ap, ◌∙◌}
use Rattle.std.specs.List.{list_any}
use Rattle.std.specs.Option.{option_map}
use Rattle.std.proofs.lemmas.Bool.{eqb-true, false≢true}
use Rattle.zr_id.specs.declared.link.LinkNo.{LinkNo}
use Rattle.zr_pend_spec.specs.declared.branch.Asker.{Asker}
use Rattle.zr_pend_spec.specs.declared.branch.Branch.{Branch}
use Rattle.zr_pend_spec.specs.Row.{RowState, is_branch}
use Rattle.zr_pend_spec.specs.Pending.{branch, is_pending, free_number, opened, begun}
use Rattle.zr_pend_spec.specs.Readings.{back}
use Rattle.zr_pend_spec.proofs.Free.{free_is_free}
use Rattle.zr_pend_spec.proofs.Sound.{free_of_number}
use Rattle.zr_pend_spec.proofs.OneRow.{none_found}
use Rattle.zr_pend_spec.proofs.Readings.{begun_back}

-- nothing that is not pending has a row
pub not_back : (rows : List RowState) (b : Branch) → is_pending b rows ≡ false → back rows b ≡ None
not_back rows b e = ap (λ o. option_map (λ (x : RowState). x.asker) o) (none_found b rows e)

pub free_back : (rows : List RowState) (link : LinkNo) → back rows (branch link (free_number link rows)) ≡ None
free_back rows link = not_back rows (branch link (free_number link rows)) (free_is_free link rows)

-- the request goes over the link
abbrev pub is_over : LinkNo → List LinkNo → Bool
is_over link to = list_any (λ l. l.0 == link.0) to

new_has : (rows : List RowState) (link : LinkNo) (n : ℕ) (to : List LinkNo) → list_any (λ c. is_branch (branch link n) c) (opened rows to) ≡ (is_over link to && free_number link rows == n)
new_has rows link n [] = refl
new_has rows link n (l ∷ ls) = by (l.0 == link.0) refl (new_has rows link n ls)
  where
    mine : (t u v : Bool) → t ≡ u → (t || (v && u)) ≡ u
    mine true true v e = refl
    mine true false v e = cc
    mine false true v e = cc
    mine false false true e = refl
    mine false false false e = refl

    by : (t : Bool) → (l.0 == link.0) ≡ t → list_any (λ c. is_branch (branch link n) c) (opened rows ls) ≡ (is_over link ls && free_number link rows == n) →
        ((t && free_number l rows == n) || list_any (λ c. is_branch (branch link n) c) (opened rows ls)) ≡ ((t || is_over link ls) && free_number link rows == n)
    by true e ih =
        ap (λ z. (free_number l rows == n) || z) ih
        ∙ mine (free_number l rows == n) (free_number link rows == n) (is_over link ls) (ap (λ k. k == n) (free_of_number l link rows (eqb-true l.0 link.0 e)))
    by false e ih = ih

pub begun_back_on : (rows : List RowState) (from : Asker) (to : List LinkNo) (link : LinkNo) (n : ℕ) →
    back (begun rows from to) (branch link n) ≡ cond (is_over link to && free_number link rows == n) (Some (Some from)) (back rows (branch link n))
begun_back_on rows from to link n =
    begun_back rows from to (branch link n)
    ∙ ap (λ t. cond (is_pending (branch link n) rows) (back rows (branch link n)) (cond t (Some (Some from)) None)) (new_has rows link n to)
    ∙ by (is_pending (branch link n) rows) refl (free_number link rows == n) refl (is_over link to)
  where
    by : (t : Bool) → is_pending (branch link n) rows ≡ t → (u : Bool) → (free_number link rows == n) ≡ u → (v : Bool) →
        cond t (back rows (branch link n)) (cond (v && u) (Some (Some from)) None) ≡ cond (v && u) (Some (Some from)) (back rows (branch link n))
    by true e true f v = absurd (false≢true (sym (ap (λ k. is_pending (branch link k) rows) (sym (eqb-true _ n f)) ∙ free_is_free link rows) ∙ e))
    by true e false f true = refl
    by true e false f false = refl
    by false e true f true = refl
    by false e u f false = sym (not_back rows (branch link n) e)
    by false e false f true = sym (not_back rows (branch link n) e)
