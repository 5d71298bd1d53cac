-- A branch is of one row, so its end is the end of it in the first row that has it: that row is gone where it had no other, and its asker
-- gets the final.
use Rattle.std.proofs.Common.{◌≡◌, ℕ, ◌+◌, ◌<◌, ◌==◌, ◌&&◌, not, Bool, true, false, cond, List, [], ◌∷◌, ◌++◌, filter, length, take, drop, get_or, slice_set, None, refl, sym, ap, ◌∙◌, append_assoc, subst, add-one}
use Rattle.std.specs.List.{list_all, find, remove}
use Rattle.std.specs.Option.{option_and_then}
use Rattle.std.proofs.lemmas.List.{take-append-drop, drop_more, take-set, drop-set}
use Rattle.zr_pend_spec.specs.declared.branch.Branch.{Branch}
use Rattle.zr_pend_spec.specs.Laws.{rest_of}
use Rattle.zr_pend_spec.specs.Row.{RowState, is_branch, has, is_last, is_done, without}
use Rattle.zr_pend_spec.specs.Pending.{is_pending, IsSound, are_distinct, branches, final_to, finished}
use Rattle.zr_pend_spec.proofs.OneRow.{alone_by, found_behind, none_last, of_one_row, not_done, rows_stay}

-- where a row has a branch, no other is left exactly where it has no other
none_left : (b : Branch) (bs : List Branch) → (length (filter (λ c. not (is_branch b c)) bs) == 0) ≡ list_all (λ c. is_branch b c) bs
none_left b [] = refl
none_left b (c ∷ cs) = by (is_branch b c) (none_left b cs)
  where
    by : (t : Bool) → (length (filter (λ e. not (is_branch b e)) cs) == 0) ≡ list_all (λ e. is_branch b e) cs →
        (length (cond (not t) (c ∷ filter (λ e. not (is_branch b e)) cs) (filter (λ e. not (is_branch b e)) cs)) == 0) ≡ (t && list_all (λ e. is_branch b e) cs)
    by true ih = ih
    by false ih = not_done c (filter (λ e. not (is_branch b e)) cs)

pub done_is_last : (b : Branch) (r : RowState) → has b r ≡ true → is_done (without b r) ≡ is_last b r
done_is_last b r h = rw h (none_left b r.branches)

-- the rows as those before one, this one, and those behind it
pub split : (rows : List RowState) (at : ℕ) (d : RowState) → at < length rows → rows ≡ take at rows ++ get_or rows at d ∷ drop (at + 1) rows
split rows at d lt = sym (take-append-drop at rows) ∙ ap (λ z. take at rows ++ z) (drop_more rows at d lt)

pub other : (rows : List RowState) (at : ℕ) (r : RowState) → at < length rows → take at rows ++ r ∷ drop (at + 1) rows ≡ slice_set rows at r
other rows at r lt =
    ap (λ z. z ++ r ∷ drop (at + 1) rows) (sym (take-set rows at r))
    ∙ ap (λ z. take at (slice_set rows at r) ++ z) (sym (drop-set rows at r lt))
    ∙ take-append-drop at (slice_set rows at r)

without_it : (rows : List RowState) (at : ℕ) → take at rows ++ drop (at + 1) rows ≡ remove rows at
without_it rows at = ap (λ n. take at rows ++ drop n rows) (add-one at)

rest_is : (b : Branch) (r : RowState) (t : Bool) → has b r ≡ true → is_last b r ≡ t → rest_of b r ≡ cond t [] (without b r ∷ [])
rest_is b r t h l = ap (λ s. cond s [] (without b r ∷ [])) (done_is_last b r h ∙ l)

rows_after : (rows : List RowState) (at : ℕ) (d : RowState) (b : Branch) (t : Bool) → IsSound rows → at < length rows → has b (get_or rows at d) ≡ true → is_last b (get_or rows at d) ≡ t →
    finished rows b ≡ take at rows ++ (cond t [] (without b (get_or rows at d) ∷ []) ++ drop (at + 1) rows)
rows_after rows at d b t s lt h l =
    let e = split rows at d lt in
    let one = of_one_row (take at rows) (get_or rows at d) (drop (at + 1) rows) b (subst IsSound e s) h in
    ap (λ z. finished z b) e
    ∙ one.rows
    ∙ ap (λ z. take at rows ++ z ++ drop (at + 1) rows) (rest_is b (get_or rows at d) t h l)
    ∙ append_assoc (take at rows) (cond t [] (without b (get_or rows at d) ∷ [])) (drop (at + 1) rows)

pub final_by : (rows : List RowState) (at : ℕ) (d : RowState) (b : Branch) (t : Bool) → are_distinct (branches rows) ≡ true → at < length rows → has b (get_or rows at d) ≡ true → is_last b (get_or rows at d) ≡ t →
    final_to rows b ≡ cond t (get_or rows at d).asker None
final_by rows at d b t s lt h l =
    let r = get_or rows at d in
    let before = take at rows in
    let after = drop (at + 1) rows in
    let e = split rows at d lt in
    let a = alone_by before r after b (subst (λ rs. are_distinct (branches rs) ≡ true) e s) h in
    ap (λ z. final_to z b) e
    ∙ ap (λ o. option_and_then (λ (q : RowState). q.asker) o) (found_behind (λ q. is_last b q) before (r ∷ after) (none_last b before a.not_before))
    ∙ by t l (none_last b after a.not_after)
  where
    by : (u : Bool) → is_last b (get_or rows at d) ≡ u → find (λ q. is_last b q) (drop (at + 1) rows) ≡ None →
        option_and_then (λ (q : RowState). q.asker) (find (λ q. is_last b q) (get_or rows at d ∷ drop (at + 1) rows)) ≡ cond u (get_or rows at d).asker None
    by true m n = rw m refl
    by false m n = rw m (ap (λ o. option_and_then (λ (q : RowState). q.asker) o) n)

-- it had no other
pub last_ends : (rows : List RowState) (at : ℕ) (d : RowState) (b : Branch) → IsSound rows → at < length rows → has b (get_or rows at d) ≡ true → is_last b (get_or rows at d) ≡ true →
    finished rows b ≡ remove rows at
last_ends rows at d b s lt h l = rows_after rows at d b true s lt h l ∙ without_it rows at

pub last_final : (rows : List RowState) (at : ℕ) (d : RowState) (b : Branch) → IsSound rows → at < length rows → has b (get_or rows at d) ≡ true → is_last b (get_or rows at d) ≡ true →
    final_to rows b ≡ (get_or rows at d).asker
last_final rows at d b s lt h l = final_by rows at d b true s.distinct lt h l

-- it had others
pub other_ends : (rows : List RowState) (at : ℕ) (d : RowState) (b : Branch) → IsSound rows → at < length rows → has b (get_or rows at d) ≡ true → is_last b (get_or rows at d) ≡ false →
    finished rows b ≡ slice_set rows at (without b (get_or rows at d))
other_ends rows at d b s lt h l = rows_after rows at d b false s lt h l ∙ other rows at (without b (get_or rows at d)) lt

pub other_final : (rows : List RowState) (at : ℕ) (d : RowState) (b : Branch) → IsSound rows → at < length rows → has b (get_or rows at d) ≡ true → is_last b (get_or rows at d) ≡ false →
    final_to rows b ≡ None
other_final rows at d b s lt h l = final_by rows at d b false s.distinct lt h l

-- no row has it
pub none_ends : (rows : List RowState) (b : Branch) → IsSound rows → is_pending b rows ≡ false → finished rows b ≡ rows
none_ends rows b s h = rows_stay b rows h s.pending

pub none_final : (rows : List RowState) (b : Branch) → is_pending b rows ≡ false → final_to rows b ≡ None
none_final rows b h = ap (λ o. option_and_then (λ (q : RowState). q.asker) o) (none_last b rows h)
