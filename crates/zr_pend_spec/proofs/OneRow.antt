-- Each branch is of one row, so what is said of a branch is said of that row: who asked, what its end leaves, and that its asker gets one
-- final when all branches of the row have ended.
use Rattle.std.proofs.Common.{◌≡◌, suc, ◌==◌, not, Bool, true, false, cond, List, [], ◌∷◌, ◌++◌, map, filter, length, Option, Some, None, refl, sym, ap, ◌∙◌, append-nil, append_assoc, subst, arith}
use Rattle.std.specs.List.{list_any, list_all, find}
use Rattle.std.specs.Option.{option_and_then, option_to_list}
use Rattle.std.proofs.lemmas.Bool.{eqb-true, false_from_ne_true, or_left, not-true}
use Rattle.std.proofs.lemmas.Grind.{flat_map-append}
use Rattle.std.proofs.lemmas.List.{map-append}
use Rattle.std.proofs.lemmas.List.Elements.{filter-append}
use Rattle.std.proofs.lemmas.List.Folds.{list_any-append, list_all-append}
use Rattle.zr_lists.proofs.Parts.{and_left, and_right, left_false, right_false}
use Rattle.zr_pend_spec.specs.declared.branch.Asker.{Asker}
use Rattle.zr_pend_spec.specs.declared.branch.Branch.{Branch}
use Rattle.zr_pend_spec.specs.Laws.{rest_of, IsOfRow, IsEnded}
use Rattle.zr_pend_spec.specs.Row.{RowState, is_branch, has, is_last, is_done, without}
use Rattle.zr_pend_spec.specs.Pending.{is_pending, branches, are_distinct, IsSound, final_to, finished, all_finished, finals}
use Rattle.zr_pend_spec.proofs.Branches.{is_branch_itself, distinct_behind, distinct_apart, distinct_apart_back}
use Rattle.zr_pend_spec.proofs.Sound.{any_branch, finished_sound}

-- ---- rows that don't have a branch

-- the branches that are left of others are all
others_stay : (b : Branch) (bs : List Branch) → list_any (λ c. is_branch b c) bs ≡ false → filter (λ c. not (is_branch b c)) bs ≡ bs
others_stay b [] h = refl
others_stay b (c ∷ cs) h = let e : is_branch b c ≡ false = left_false _ _ h in rw e (ap (λ z. c ∷ z) (others_stay b cs (right_false _ _ h)))

pub row_stays : (b : Branch) (r : RowState) → has b r ≡ false → without b r ≡ r
row_stays b r h = ap (λ bs. record { asker = r.asker; branches = bs }) (others_stay b r.branches h)

-- they stay as they are
pub rows_stay : (b : Branch) (rows : List RowState) → is_pending b rows ≡ false → list_all (λ r. not (is_done r)) rows ≡ true → finished rows b ≡ rows
rows_stay b [] h k = refl
rows_stay b (r ∷ rows) h k =
    let e : without b r ≡ r = row_stays b r (left_false _ _ h) in
    let f : not (is_done r) ≡ true = and_left _ _ k in
    ap (λ (x : RowState). cond (not (is_done x)) (x ∷ finished rows b) (finished rows b)) e
    ∙ ap (λ t. cond t (r ∷ finished rows b) (finished rows b)) f
    ∙ ap (λ z. r ∷ z) (rows_stay b rows (right_false _ _ h) (and_right _ _ k))

-- and are not found
pub none_found : (b : Branch) (rows : List RowState) → is_pending b rows ≡ false → find (λ r. has b r) rows ≡ None
none_found b [] h = refl
none_found b (r ∷ rows) h = let e : has b r ≡ false = left_false _ _ h in rw e (none_found b rows (right_false _ _ h))

pub none_last : (b : Branch) (rows : List RowState) → is_pending b rows ≡ false → find (λ r. is_last b r) rows ≡ None
none_last b [] h = refl
none_last b (r ∷ rows) h = let e : has b r ≡ false = left_false _ _ h in rw e (none_last b rows (right_false _ _ h))

-- ---- the row of a branch, among others

-- the rows before and behind it don't have it
pub record Alone (before : List RowState) (r : RowState) (after : List RowState) (b : Branch) : Type 0 where
  pub not_before : is_pending b before ≡ false
  pub not_after : is_pending b after ≡ false

pub alone_by : (before : List RowState) (r : RowState) (after : List RowState) (b : Branch) → are_distinct (branches (before ++ r ∷ after)) ≡ true → has b r ≡ true → Alone before r after b
alone_by before r after b s h =
    let d : are_distinct (branches before ++ (r.branches ++ branches after)) ≡ true = ap are_distinct (sym (flat_map-append (λ (q : RowState). q.branches) before (r ∷ after))) ∙ s in
    let here : list_any (λ c. is_branch b c) (r.branches ++ branches after) ≡ true = list_any-append (λ c. is_branch b c) r.branches (branches after) ∙ or_left _ _ h in
    record {
      not_before = sym (any_branch b before) ∙ distinct_apart_back (branches before) (r.branches ++ branches after) b d here;
      not_after = sym (any_branch b after) ∙ distinct_apart r.branches (branches after) b (distinct_behind (branches before) (r.branches ++ branches after) d) h;
    }

pub alone : (before : List RowState) (r : RowState) (after : List RowState) (b : Branch) → IsSound (before ++ r ∷ after) → has b r ≡ true → Alone before r after b
alone before r after b s h = alone_by before r after b s.distinct h

pub found_behind : (p : RowState → Bool) (before : List RowState) (rows : List RowState) → find p before ≡ None → find p (before ++ rows) ≡ find p rows
found_behind p [] rows h = refl
found_behind p (q ∷ qs) rows h = by (p q) (found_behind p qs rows) h
  where
    by : (t : Bool) → (find p qs ≡ None → find p (qs ++ rows) ≡ find p rows) → cond t (Some q) (find p qs) ≡ None → cond t (Some q) (find p (qs ++ rows)) ≡ find p rows
    by true ih k = cc
    by false ih k = ih k

finished-append : (xs ys : List RowState) (b : Branch) → finished (xs ++ ys) b ≡ finished xs b ++ finished ys b
finished-append xs ys b =
    ap (λ z. filter (λ r. not (is_done r)) z) (map-append (λ r. without b r) xs ys)
    ∙ filter-append (λ (r : RowState). not (is_done r)) (map (λ r. without b r) xs) (map (λ r. without b r) ys)

-- what is left of the row and of those behind it
rest_first : (b : Branch) (r : RowState) (after : List RowState) → finished (r ∷ after) b ≡ rest_of b r ++ finished after b
rest_first b r after = by (is_done (without b r))
  where
    by : (t : Bool) → cond (not t) (without b r ∷ finished after b) (finished after b) ≡ cond t [] (without b r ∷ []) ++ finished after b
    by true = refl
    by false = refl

pending_before : (before rows : List RowState) → list_all (λ (r : RowState). not (is_done r)) (before ++ rows) ≡ true → list_all (λ (r : RowState). not (is_done r)) before ≡ true
pending_before before rows h = and_left _ _ (sym (list_all-append (λ (r : RowState). not (is_done r)) before rows) ∙ h)

pending_behind : (before rows : List RowState) → list_all (λ (r : RowState). not (is_done r)) (before ++ rows) ≡ true → list_all (λ (r : RowState). not (is_done r)) rows ≡ true
pending_behind before rows h = and_right _ _ (sym (list_all-append (λ (r : RowState). not (is_done r)) before rows) ∙ h)

pub of_one_row : (before : List RowState) (r : RowState) (after : List RowState) (b : Branch) → IsSound (before ++ r ∷ after) → has b r ≡ true → IsOfRow before r after b
of_one_row before r after b s h =
    let a = alone before r after b s h in
    let found : find (λ q. has b q) (before ++ r ∷ after) ≡ Some r = found_behind (λ q. has b q) before (r ∷ after) (none_found b before a.not_before) ∙ rw h refl in
    let first : finished before b ≡ before = rows_stay b before a.not_before (pending_before before (r ∷ after) s.pending) in
    let last : finished after b ≡ after = rows_stay b after a.not_after (and_right _ _ (pending_behind before (r ∷ after) s.pending)) in
    record {
      asker = ap (λ o. option_and_then (λ (q : RowState). q.asker) o) found;
      rows =
          finished-append before (r ∷ after) b
          ∙ ap (λ z. z ++ finished (r ∷ after) b) first
          ∙ ap (λ z. before ++ z) (rest_first b r after ∙ ap (λ z. rest_of b r ++ z) last)
          ∙ sym (append_assoc before (rest_of b r) after);
    }

-- ---- all branches of a row

abbrev row : Option Asker → List Branch → RowState
row asker bs = record { asker = asker; branches = bs }

-- the first branch of a row is none of the others
first_apart : (before : List RowState) (asker : Option Asker) (b : Branch) (bs : List Branch) (after : List RowState) → IsSound (before ++ row asker (b ∷ bs) ∷ after) → list_any (λ c. is_branch b c) bs ≡ false
first_apart before asker b bs after s =
    let d : are_distinct (branches before ++ ((b ∷ bs) ++ branches after)) ≡ true = ap are_distinct (sym (flat_map-append (λ (q : RowState). q.branches) before (row asker (b ∷ bs) ∷ after))) ∙ s.distinct in
    let here : are_distinct (b ∷ (bs ++ branches after)) ≡ true = distinct_behind (branches before) ((b ∷ bs) ++ branches after) d in
    left_false _ _ (sym (list_any-append (λ c. is_branch b c) bs (branches after)) ∙ not-true _ (and_left _ _ here))

-- it leaves the others
first_ends : (asker : Option Asker) (b : Branch) (bs : List Branch) → list_any (λ c. is_branch b c) bs ≡ false → without b (row asker (b ∷ bs)) ≡ row asker bs
first_ends asker b bs h = let e : is_branch b b ≡ true = is_branch_itself b in ap (λ cs. row asker cs) (rw e (others_stay b bs h))

pub not_done : (c : Branch) (cs : List Branch) → (length (c ∷ cs) == 0) ≡ false
not_done c cs = false_from_ne_true _ (λ t. let e : suc (length cs) ≡ 0 = eqb-true _ 0 t in absurd (omega arith))

-- who gets a final when the first branch ends, where others are left
no_final : (before : List RowState) (asker : Option Asker) (b c : Branch) (cs : List Branch) (after : List RowState) → IsSound (before ++ row asker (b ∷ c ∷ cs) ∷ after) → final_to (before ++ row asker (b ∷ c ∷ cs) ∷ after) b ≡ None
no_final before asker b c cs after s =
    let r = row asker (b ∷ c ∷ cs) in
    let h : has b r ≡ true = or_left _ _ (is_branch_itself b) in
    let a = alone before r after b s h in
    let other : is_branch b c ≡ false = left_false _ _ (first_apart before asker b (c ∷ cs) after s) in
    let more : is_last b r ≡ false = rw (is_branch_itself b, other) refl in
    let none : find (λ q. is_last b q) (before ++ r ∷ after) ≡ None = found_behind (λ q. is_last b q) before (r ∷ after) (none_last b before a.not_before) ∙ rw more (none_last b after a.not_after) in
    ap (λ o. option_and_then (λ (q : RowState). q.asker) o) none

-- and where there is no other
last_final : (before : List RowState) (asker : Option Asker) (b : Branch) (after : List RowState) → IsSound (before ++ row asker (b ∷ []) ∷ after) → final_to (before ++ row asker (b ∷ []) ∷ after) b ≡ asker
last_final before asker b after s =
    let r = row asker (b ∷ []) in
    let h : has b r ≡ true = or_left _ _ (is_branch_itself b) in
    let a = alone before r after b s h in
    let last : is_last b r ≡ true = rw (is_branch_itself b) refl in
    let one : find (λ q. is_last b q) (before ++ r ∷ after) ≡ Some r = found_behind (λ q. is_last b q) before (r ∷ after) (none_last b before a.not_before) ∙ rw last refl in
    ap (λ o. option_and_then (λ (q : RowState). q.asker) o) one

-- the rows once the first branch has ended, where others are left
first_leaves : (before : List RowState) (asker : Option Asker) (b c : Branch) (cs : List Branch) (after : List RowState) → IsSound (before ++ row asker (b ∷ c ∷ cs) ∷ after) →
    finished (before ++ row asker (b ∷ c ∷ cs) ∷ after) b ≡ before ++ row asker (c ∷ cs) ∷ after
first_leaves before asker b c cs after s =
    let r = row asker (b ∷ c ∷ cs) in
    let q = row asker (c ∷ cs) in
    let w : without b r ≡ q = first_ends asker b (c ∷ cs) (first_apart before asker b (c ∷ cs) after s) in
    let n : (length (c ∷ cs) == 0) ≡ false = not_done c cs in
    let rest : rest_of b r ≡ q ∷ [] = ap (λ (x : RowState). cond (is_done x) [] (x ∷ [])) w ∙ rw n refl in
    (of_one_row before r after b s (or_left _ _ (is_branch_itself b))).rows
    ∙ ap (λ z. (before ++ z) ++ after) rest
    ∙ append_assoc before (q ∷ []) after

last_leaves : (before : List RowState) (asker : Option Asker) (b : Branch) (after : List RowState) → IsSound (before ++ row asker (b ∷ []) ∷ after) → finished (before ++ row asker (b ∷ []) ∷ after) b ≡ before ++ after
last_leaves before asker b after s =
    let r = row asker (b ∷ []) in
    let w : without b r ≡ row asker [] = first_ends asker b [] refl in
    let rest : rest_of b r ≡ [] = ap (λ (x : RowState). cond (is_done x) [] (x ∷ [])) w in
    (of_one_row before r after b s (or_left _ _ (is_branch_itself b))).rows
    ∙ ap (λ z. (before ++ z) ++ after) rest
    ∙ ap (λ z. z ++ after) (append-nil before)

-- branch by branch
ends : (before : List RowState) (asker : Option Asker) (bs : List Branch) (after : List RowState) → IsSound (before ++ row asker bs ∷ after) → IsEnded before (row asker bs) after
ends before asker [] after s = let no : false ≡ true = and_left false (list_all (λ (r : RowState). not (is_done r)) after) (pending_behind before (row asker [] ∷ after) s.pending) in cc
ends before asker (b ∷ []) after s =
    record {
      rows = last_leaves before asker b after s;
      final = append-nil _ ∙ ap (λ o. option_to_list o) (last_final before asker b after s);
    }
ends before asker (b ∷ c ∷ cs) after s =
    let e = first_leaves before asker b c cs after s in
    let sound : IsSound (before ++ row asker (c ∷ cs) ∷ after) = subst IsSound e (finished_sound _ b s) in
    let more = ends before asker (c ∷ cs) after sound in
    record {
      rows = ap (λ rs. all_finished rs (c ∷ cs)) e ∙ more.rows;
      final =
          ap (λ o. option_to_list o ++ finals (finished (before ++ row asker (b ∷ c ∷ cs) ∷ after) b) (c ∷ cs)) (no_final before asker b c cs after s)
          ∙ ap (λ rs. finals rs (c ∷ cs)) e
          ∙ more.final;
    }

pub row_ends : (before : List RowState) (r : RowState) (after : List RowState) → IsSound (before ++ r ∷ after) → IsEnded before r after
row_ends before r after s = ends before r.asker r.branches after s
