-- Branches that end one after another while all rows stay: the rows of which a branch is left are those that are left when each end takes away
-- a row that has none, and those who get a final are the same.
use Rattle.std.proofs.Common.{◌≡◌, ℕ, ◌+◌, ◌<◌, ◌==◌, ◌&&◌, not, Bool, true, false, cond, List, [], ◌∷◌, ◌++◌, filter, length, take, drop, get_or, slice_set, Some, None, refl, sym, ap, ◌∙◌, subst}
use Rattle.std.specs.List.{list_all, find}
use Rattle.std.specs.Option.{option_and_then, option_to_list}
use Rattle.std.proofs.lemmas.List.{map-append}
use Rattle.std.proofs.lemmas.List.Elements.{filter-append}
use Rattle.zr_id.specs.declared.link.LinkNo.{LinkNo}
use Rattle.zr_pend_spec.specs.declared.branch.Branch.{Branch}
use Rattle.zr_pend_spec.specs.Row.{RowState, is_branch, has, is_last, is_done, without}
use Rattle.zr_pend_spec.specs.Pending.{IsSound, all_finished, all_orphaned, are_distinct, asker_of, branches, final_to, finals, is_pending}
use Rattle.zr_lists.proofs.Parts.{and_left, and_right, left_false, right_false}
use Rattle.zr_pend_rows.specs.Ending.{all_ended, ended, finals_among, left}
use Rattle.zr_pend_spec.proofs.Branches.{distinct_filtered}
use Rattle.zr_pend_spec.proofs.OneEnd.{final_by, other, split}
use Rattle.zr_pend_spec.proofs.OneRow.{alone_by, not_done, of_one_row, none_found, row_stays}
use Rattle.zr_pend_spec.proofs.Readings.{none_done}
use Rattle.zr_pend_spec.proofs.Sound.{all_orphaned_sound}

-- ---- one branch

-- rows that don't have it stay as they are
pub none_ended : (rows : List RowState) (b : Branch) → is_pending b rows ≡ false → ended rows b ≡ rows
none_ended [] b h = refl
none_ended (r ∷ rows) b h = ap (λ q. q ∷ ended rows b) (row_stays b r (left_false _ _ h)) ∙ ap (λ z. r ∷ z) (none_ended rows b (right_false _ _ h))

-- its row alone changes
pub ended_at : (rows : List RowState) (at : ℕ) (d : RowState) (b : Branch) → are_distinct (branches rows) ≡ true → at < length rows → has b (get_or rows at d) ≡ true →
    ended rows b ≡ slice_set rows at (without b (get_or rows at d))
ended_at rows at d b s lt h =
    let r = get_or rows at d in
    let e = split rows at d lt in
    let a = alone_by (take at rows) r (drop (at + 1) rows) b (subst (λ rs. are_distinct (branches rs) ≡ true) e s) h in
    ap (λ z. ended z b) e
    ∙ map-append (λ q. without b q) (take at rows) (r ∷ drop (at + 1) rows)
    ∙ ap (λ z. z ++ without b r ∷ ended (drop (at + 1) rows) b) (none_ended (take at rows) b a.not_before)
    ∙ ap (λ z. take at rows ++ without b r ∷ z) (none_ended (drop (at + 1) rows) b a.not_after)
    ∙ other rows at (without b r) lt

pub final_at : (rows : List RowState) (at : ℕ) (d : RowState) (b : Branch) → are_distinct (branches rows) ≡ true → at < length rows → has b (get_or rows at d) ≡ true →
    final_to rows b ≡ cond (is_last b (get_or rows at d)) (get_or rows at d).asker None
final_at rows at d b s lt h = final_by rows at d b (is_last b (get_or rows at d)) s lt h refl

-- the branches that are left are those but for it
ended_branches : (rows : List RowState) (b : Branch) → branches (ended rows b) ≡ filter (λ c. not (is_branch b c)) (branches rows)
ended_branches [] b = refl
ended_branches (r ∷ rows) b =
    ap (λ z. filter (λ c. not (is_branch b c)) r.branches ++ z) (ended_branches rows b)
    ∙ sym (filter-append (λ c. not (is_branch b c)) r.branches (branches rows))

pub ended_distinct : (rows : List RowState) (b : Branch) → are_distinct (branches rows) ≡ true → are_distinct (branches (ended rows b)) ≡ true
ended_distinct rows b s = ap are_distinct (ended_branches rows b) ∙ distinct_filtered (λ c. not (is_branch b c)) (branches rows) s

-- who asked the row of a branch asked the one that has it
pub asker_at : (rows : List RowState) (at : ℕ) (d : RowState) (b : Branch) → IsSound rows → at < length rows → has b (get_or rows at d) ≡ true → asker_of b rows ≡ (get_or rows at d).asker
asker_at rows at d b s lt h =
    let e = split rows at d lt in
    ap (λ z. asker_of b z) e ∙ (of_one_row (take at rows) (get_or rows at d) (drop (at + 1) rows) b (subst IsSound e s) h).asker

pub none_asked : (rows : List RowState) (b : Branch) → is_pending b rows ≡ false → asker_of b rows ≡ None
none_asked rows b h = ap (λ o. option_and_then (λ (q : RowState). q.asker) o) (none_found b rows h)

-- ---- rows of which no branch is left

done_stays : (b : Branch) (r : RowState) → is_done r ≡ true → is_done (without b r) ≡ true
done_stays b r h = go r.branches h
  where
    go : (bs : List Branch) → (length bs == 0) ≡ true → (length (filter (λ c. not (is_branch b c)) bs) == 0) ≡ true
    go [] k = refl
    go (c ∷ cs) k = let no : false ≡ true = sym (not_done c cs) ∙ k in cc

-- they are no more among the rest
left_ended : (rows : List RowState) (b : Branch) → left (ended (left rows) b) ≡ left (ended rows b)
left_ended [] b = refl
left_ended (r ∷ rows) b = by (is_done r) refl (left_ended rows b)
  where
    by : (t : Bool) → is_done r ≡ t → left (ended (left rows) b) ≡ left (ended rows b) → left (ended (cond (not t) (r ∷ left rows) (left rows)) b) ≡ left (ended (r ∷ rows) b)
    by true e ih = ih ∙ ap (λ t. cond (not t) (without b r ∷ left (ended rows b)) (left (ended rows b))) (sym (done_stays b r e))
    by false e ih = ap (λ z. cond (not (is_done (without b r))) (without b r ∷ z) z) ih

-- and end nothing
final_left : (rows : List RowState) (b : Branch) → final_to (left rows) b ≡ final_to rows b
final_left rows b = ap (λ o. option_and_then (λ (q : RowState). q.asker) o) (go rows)
  where
    go : (rs : List RowState) → find (λ r. is_last b r) (left rs) ≡ find (λ r. is_last b r) rs
    go [] = refl
    go (r ∷ rs) = by (is_done r) refl (go rs)
      where
        by : (t : Bool) → is_done r ≡ t → find (λ q. is_last b q) (left rs) ≡ find (λ q. is_last b q) rs → find (λ q. is_last b q) (cond (not t) (r ∷ left rs) (left rs)) ≡ find (λ q. is_last b q) (r ∷ rs)
        by true e ih =
            let none : has b r ≡ false = none_done b r.branches e in
            let no : is_last b r ≡ false = ap (λ t. t && list_all (λ c. is_branch b c) r.branches) none in
            ih ∙ ap (λ t. cond t (Some r) (find (λ q. is_last b q) rs)) (sym no)
        by false e ih = ap (λ z. cond (is_last b r) (Some r) z) ih

-- ---- branches one after another

all_left : (rows : List RowState) (bs : List Branch) → all_finished (left rows) bs ≡ left (all_ended rows bs)
all_left rows [] = refl
all_left rows (b ∷ bs) = ap (λ rs. all_finished rs bs) (left_ended rows b) ∙ all_left (ended rows b) bs

finals_left : (rows : List RowState) (bs : List Branch) → finals (left rows) bs ≡ finals_among rows bs
finals_left rows [] = refl
finals_left rows (b ∷ bs) =
    ap (λ o. option_to_list o ++ finals (left (ended (left rows) b)) bs) (final_left rows b)
    ∙ ap (λ rs. option_to_list (final_to rows b) ++ finals rs bs) (left_ended rows b)
    ∙ ap (λ xs. option_to_list (final_to rows b) ++ xs) (finals_left (ended rows b) bs)

all_stay : (rows : List RowState) → list_all (λ r. not (is_done r)) rows ≡ true → left rows ≡ rows
all_stay [] h = refl
all_stay (r ∷ rows) h = let e : not (is_done r) ≡ true = and_left _ _ h in ap (λ t. cond t (r ∷ left rows) (left rows)) e ∙ ap (λ z. r ∷ z) (all_stay rows (and_right _ _ h))

all_ended_left : (rows : List RowState) (bs : List Branch) → IsSound rows → left (all_ended rows bs) ≡ all_finished rows bs
all_ended_left rows bs s = sym (all_left rows bs) ∙ ap (λ rs. all_finished rs bs) (all_stay rows s.pending)

finals_same : (rows : List RowState) (bs : List Branch) → IsSound rows → finals_among rows bs ≡ finals rows bs
finals_same rows bs s = sym (finals_left rows bs) ∙ ap (λ rs. finals rs bs) (all_stay rows s.pending)

-- ---- a link that goes down

pub orphaned_distinct : (link : LinkNo) (rows : List RowState) → IsSound rows → are_distinct (branches (all_orphaned link rows)) ≡ true
orphaned_distinct link rows s = (all_orphaned_sound link rows s).distinct

pub dropped_left : (link : LinkNo) (rows : List RowState) (bs : List Branch) → IsSound rows → left (all_ended (all_orphaned link rows) bs) ≡ all_finished (all_orphaned link rows) bs
dropped_left link rows bs s = all_ended_left (all_orphaned link rows) bs (all_orphaned_sound link rows s)

pub dropped_finals : (link : LinkNo) (rows : List RowState) (bs : List Branch) → IsSound rows → finals_among (all_orphaned link rows) bs ≡ finals (all_orphaned link rows) bs
dropped_finals link rows bs s = finals_same (all_orphaned link rows) bs (all_orphaned_sound link rows s)
