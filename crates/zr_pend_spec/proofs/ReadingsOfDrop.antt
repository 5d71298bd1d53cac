-- What the rows of pending requests say once a link went down: who asked over it is forgotten, and its branches have ended.
use Rattle.std.proofs.Common.{◌≡◌, length, ◌==◌, ◌&&◌, ◌||◌, not, Bool, true, false, cond, List, [], ◌∷◌, filter, Option, Some, None, refl, sym, ap, ◌∙◌}
use Rattle.std.specs.List.{list_any, list_all, find}
use Rattle.std.specs.Option.{option_map, option_map_or}
use Rattle.std.proofs.lemmas.Bool.{eqb-true, eq-eqb, false≢true, or_left, or_right}
use Rattle.zr_id.specs.declared.link.LinkNo.{LinkNo}
use Rattle.zr_lists.proofs.Parts.{and_left, and_right}
use Rattle.zr_pend_spec.specs.declared.branch.Asker.{Asker}
use Rattle.zr_pend_spec.specs.declared.branch.Branch.{Branch}
use Rattle.zr_pend_spec.specs.Readings.{back, row_of, but_link, off_link, IsDropped}
use Rattle.zr_pend_spec.specs.Row.{RowState, is_branch, has, is_done, is_of, is_asked_by, orphaned}
use Rattle.zr_pend_spec.specs.Pending.{asked, askers_differ, is_pending, branch, branches_on, numbers_on, ascending, finished, all_finished, all_orphaned, dropped, IsSound}
use Rattle.zr_pend_spec.proofs.Branches.{is_branch_itself}
use Rattle.zr_pend_spec.proofs.Free.{is_in, pending_is_in}
use Rattle.zr_pend_spec.proofs.Sound.{orphaned_branches, askers_left, askers_orphaned, dropped_sound}
use Rattle.zr_pend_spec.proofs.OneRow.{none_found}
use Rattle.zr_pend_spec.proofs.Dropped.{ended_has, ended_apart, in_order}
use Rattle.zr_pend_spec.proofs.Readings.{finished_back, finished_row}

-- ---- who asked over the link is forgotten

pub orphaned_asker : (link : LinkNo) (r : RowState) → (orphaned link r).asker ≡ but_link link r.asker
orphaned_asker link r = by (is_of link r)
  where
    by : (t : Bool) → (cond t (record { asker = None; branches = r.branches }) r).asker ≡ cond t None r.asker
    by true = refl
    by false = refl

orphaned_back : (link : LinkNo) (rows : List RowState) (b : Branch) → back (all_orphaned link rows) b ≡ option_map (λ o. but_link link o) (back rows b)
orphaned_back link [] b = refl
orphaned_back link (r ∷ rows) b =
    ap (λ bs. option_map (λ (x : RowState). x.asker) (cond (list_any (λ c. is_branch b c) bs) (Some (orphaned link r)) (find (λ x. has b x) (all_orphaned link rows)))) (orphaned_branches link r)
    ∙ by (has b r) (orphaned_back link rows b)
  where
    by : (t : Bool) → back (all_orphaned link rows) b ≡ option_map (λ o. but_link link o) (back rows b) →
        option_map (λ (x : RowState). x.asker) (cond t (Some (orphaned link r)) (find (λ x. has b x) (all_orphaned link rows)))
        ≡ option_map (λ o. but_link link o) (option_map (λ (x : RowState). x.asker) (cond t (Some r) (find (λ x. has b x) rows)))
    by true ih = ap (λ o. Some o) (orphaned_asker link r)
    by false ih = ih

-- whether an asker is another one's
abbrev pub is_who : Asker → Option Asker → Bool
is_who a o = option_map_or (λ z. z.link.0 == a.link.0 && z.number == a.number) o false

pub who_is_left : (link : LinkNo) (a : Asker) (o : Option Asker) → is_who a (but_link link o) ≡ (not (a.link.0 == link.0) && is_who a o)
who_is_left link a None = by (a.link.0 == link.0)
  where
    by : (t : Bool) → false ≡ (not t && false)
    by true = refl
    by false = refl
who_is_left link a (Some z) = by (z.link.0 == link.0) refl (a.link.0 == link.0) refl (z.link.0 == a.link.0) refl
  where
    by : (t : Bool) → (z.link.0 == link.0) ≡ t → (u : Bool) → (a.link.0 == link.0) ≡ u → (v : Bool) → (z.link.0 == a.link.0) ≡ v →
        is_who a (cond t None (Some z)) ≡ (not u && (v && z.number == a.number))
    by true e true f v g = refl
    by true e false f true g = absurd (false≢true (sym f ∙ eq-eqb a.link.0 link.0 (sym (eqb-true z.link.0 a.link.0 g) ∙ eqb-true z.link.0 link.0 e)))
    by true e false f false g = refl
    by false e true f true g = absurd (false≢true (sym e ∙ eq-eqb z.link.0 link.0 (eqb-true z.link.0 a.link.0 g ∙ eqb-true a.link.0 link.0 f)))
    by false e true f false g = ap (λ t. t && z.number == a.number) g
    by false e false f v g = ap (λ t. t && z.number == a.number) g

orphaned_row : (link : LinkNo) (rows : List RowState) (a : Asker) → row_of a (all_orphaned link rows) ≡ cond (a.link.0 == link.0) [] (row_of a rows)
orphaned_row link [] a = by (a.link.0 == link.0)
  where
    by : (t : Bool) → [] ≡ cond {A = List Branch} t [] []
    by true = refl
    by false = refl
orphaned_row link (r ∷ rows) a =
    ap (λ t. option_map_or (λ (x : RowState). x.branches) (cond t (Some (orphaned link r)) (find (λ x. is_asked_by a x) (all_orphaned link rows))) [])
    (ap (λ o. is_who a o) (orphaned_asker link r) ∙ who_is_left link a r.asker)
    ∙ by (a.link.0 == link.0) (is_asked_by a r) (orphaned_row link rows a)
  where
    by : (k t : Bool) → row_of a (all_orphaned link rows) ≡ cond k [] (row_of a rows) →
        option_map_or (λ (x : RowState). x.branches) (cond (not k && t) (Some (orphaned link r)) (find (λ x. is_asked_by a x) (all_orphaned link rows))) []
        ≡ cond k [] (option_map_or (λ (x : RowState). x.branches) (cond t (Some r) (find (λ x. is_asked_by a x) rows)) [])
    by true t ih = ih
    by false true ih = orphaned_branches link r
    by false false ih = ih

-- ---- several branches end

-- whether a branch is one of these
abbrev is_one_of : List Branch → Branch → Bool
is_one_of bs c = list_any (λ b. is_branch b c) bs

all_finished_back : (rows : List RowState) (bs : List Branch) (c : Branch) → back (all_finished rows bs) c ≡ cond (is_one_of bs c) None (back rows c)
all_finished_back rows [] c = refl
all_finished_back rows (b ∷ bs) c =
    all_finished_back (finished rows b) bs c ∙ ap (λ o. cond (is_one_of bs c) None o) (finished_back rows b c) ∙ by (is_one_of bs c) (is_branch b c)
  where
    by : (u v : Bool) → cond u None (cond v None (back rows c)) ≡ cond (v || u) None (back rows c)
    by true true = refl
    by true false = refl
    by false true = refl
    by false false = refl

filter_none : (bs : List Branch) → filter (λ (c : Branch). true) bs ≡ bs
filter_none [] = refl
filter_none (b ∷ bs) = ap (λ cs. b ∷ cs) (filter_none bs)

filter_both : (p q : Branch → Bool) (bs : List Branch) → filter (λ c. not (q c)) (filter (λ c. not (p c)) bs) ≡ filter (λ c. not (p c || q c)) bs
filter_both p q [] = refl
filter_both p q (b ∷ bs) = by (p b) (q b) refl (filter_both p q bs)
  where
    by : (t u : Bool) → q b ≡ u → filter (λ c. not (q c)) (filter (λ c. not (p c)) bs) ≡ filter (λ c. not (p c || q c)) bs →
        filter (λ c. not (q c)) (cond (not t) (b ∷ filter (λ c. not (p c)) bs) (filter (λ c. not (p c)) bs))
        ≡ cond (not (t || u)) (b ∷ filter (λ c. not (p c || q c)) bs) (filter (λ c. not (p c || q c)) bs)
    by true u e ih = ih
    by false true e ih = rw e ih
    by false false e ih = rw e (ap (λ cs. b ∷ cs) ih)

all_finished_row : (rows : List RowState) (bs : List Branch) (a : Asker) → askers_differ rows ≡ true → row_of a (all_finished rows bs) ≡ filter (λ c. not (is_one_of bs c)) (row_of a rows)
all_finished_row rows [] a s = sym (filter_none (row_of a rows))
all_finished_row rows (b ∷ bs) a s =
    all_finished_row (finished rows b) bs a (askers_left rows b s)
    ∙ ap (λ cs. filter (λ c. not (is_one_of bs c)) cs) (finished_row rows b a s)
    ∙ filter_both (λ c. is_branch b c) (λ c. is_one_of bs c) (row_of a rows)

-- ---- the branches on the link

-- what is pending on the link is one of them
ended_pending : (link : LinkNo) (rows : List RowState) (c : Branch) → (c.link.0 == link.0) ≡ true → is_pending c rows ≡ true → is_one_of (branches_on link rows) c ≡ true
ended_pending link rows c e h =
    let at : c.link.0 ≡ link.0 = eqb-true c.link.0 link.0 e in
    let here : is_pending (branch link c.number) rows ≡ true = ap (λ n. is_pending (branch (record { 0 = n }) c.number) rows) (sym at) ∙ h in
    let listed : is_in c.number (ascending (numbers_on link rows)) ≡ true = (in_order (numbers_on link rows)).same (λ m. m == c.number) ∙ sym (pending_is_in link c.number rows) ∙ here in
    ap (λ n. is_one_of (branches_on link rows) (branch (record { 0 = n }) c.number)) at ∙ ended_has link c.number (ascending (numbers_on link rows)) listed

pub dropped_back : (link : LinkNo) (rows : List RowState) (b : Branch) → back (dropped link rows) b ≡ cond (b.link.0 == link.0) None (option_map (λ o. but_link link o) (back rows b))
dropped_back link rows b =
    all_finished_back (all_orphaned link rows) (branches_on link rows) b
    ∙ ap (λ o. cond (is_one_of (branches_on link rows) b) None o) (orphaned_back link rows b)
    ∙ by (b.link.0 == link.0) refl (is_one_of (branches_on link rows) b) refl (is_pending b rows) refl
  where
    was : Option (Option Asker)
    was = option_map (λ o. but_link link o) (back rows b)

    by : (k : Bool) → (b.link.0 == link.0) ≡ k → (t : Bool) → is_one_of (branches_on link rows) b ≡ t → (p : Bool) → is_pending b rows ≡ p → cond t None was ≡ cond k None was
    by true e true f p g = refl
    by true e false f true g = absurd (false≢true (sym f ∙ ended_pending link rows b e g))
    by true e false f false g = ap (λ o. option_map (λ q. but_link link q) (option_map (λ (x : RowState). x.asker) o)) (none_found b rows g)
    by false e true f p g = absurd (false≢true (sym (ended_apart link b (ascending (numbers_on link rows)) e) ∙ f))
    by false e false f p g = refl

-- what stands in a row is pending
row_pending : (a : Asker) (rows : List RowState) (c : Branch) → list_any (λ d. is_branch c d) (row_of a rows) ≡ true → is_pending c rows ≡ true
row_pending a [] c h = h
row_pending a (r ∷ rows) c h = by (is_asked_by a r) (row_pending a rows c) h
  where
    by : (t : Bool) → (list_any (λ d. is_branch c d) (row_of a rows) ≡ true → is_pending c rows ≡ true)
        → list_any (λ d. is_branch c d) (option_map_or (λ (x : RowState). x.branches) (cond t (Some r) (find (λ x. is_asked_by a x) rows)) []) ≡ true → (has c r || is_pending c rows) ≡ true
    by true ih k = or_left _ _ k
    by false ih k = or_right _ _ (ih k)

filter_same : (p q : Branch → Bool) (bs : List Branch) → ((c : Branch) → list_any (λ d. is_branch c d) bs ≡ true → p c ≡ q c) → filter p bs ≡ filter q bs
filter_same p q [] h = refl
filter_same p q (b ∷ bs) h = by (p b) (q b) (h b (or_left _ _ (is_branch_itself b))) (filter_same p q bs (λ c k. h c (or_right _ _ k)))
  where
    by : (t u : Bool) → t ≡ u → filter p bs ≡ filter q bs → cond t (b ∷ filter p bs) (filter p bs) ≡ cond u (b ∷ filter q bs) (filter q bs)
    by true true e ih = ap (λ cs. b ∷ cs) ih
    by true false e ih = cc
    by false true e ih = cc
    by false false e ih = ih

pub dropped_row : (link : LinkNo) (rows : List RowState) (a : Asker) → askers_differ rows ≡ true → row_of a (dropped link rows) ≡ cond (a.link.0 == link.0) [] (off_link link (row_of a rows))
dropped_row link rows a s =
    all_finished_row (all_orphaned link rows) (branches_on link rows) a (askers_orphaned link rows s)
    ∙ ap (λ cs. filter (λ c. not (is_one_of (branches_on link rows) c)) cs) (orphaned_row link rows a)
    ∙ by (a.link.0 == link.0)
  where
    one : (c : Branch) → list_any (λ d. is_branch c d) (row_of a rows) ≡ true → (k : Bool) → (c.link.0 == link.0) ≡ k → not (is_one_of (branches_on link rows) c) ≡ not k
    one c h true e = ap not (ended_pending link rows c e (row_pending a rows c h))
    one c h false e = ap not (ended_apart link c (ascending (numbers_on link rows)) e)

    by : (k : Bool) → filter (λ c. not (is_one_of (branches_on link rows) c)) (cond k [] (row_of a rows)) ≡ cond k [] (off_link link (row_of a rows))
    by true = refl
    by false = filter_same (λ c. not (is_one_of (branches_on link rows) c)) (λ c. not (c.link.0 == link.0)) (row_of a rows) (λ c h. one c h (c.link.0 == link.0) refl)

-- ---- who asked is kept while a branch is left

pub kept_is : (a : Asker) (rows : List RowState) → list_all (λ r. not (is_done r)) rows ≡ true → asked a rows ≡ not (length (row_of a rows) == 0)
kept_is a [] h = refl
kept_is a (r ∷ rows) h = by (is_asked_by a r) (kept_is a rows (and_right _ _ h))
  where
    by : (t : Bool) → asked a rows ≡ not (length (row_of a rows) == 0) →
        (t || asked a rows) ≡ not (length (option_map_or (λ (x : RowState). x.branches) (cond t (Some r) (find (λ x. is_asked_by a x) rows)) []) == 0)
    by true ih = sym (and_left _ _ h)
    by false ih = ih

pub dropped_is : (link : LinkNo) (rows : List RowState) → IsSound rows → IsDropped link rows
dropped_is link rows s = record {
  back_is = dropped_back link rows;
  kept = λ a. kept_is a (dropped link rows) (dropped_sound link rows s).pending;
  row = λ a. dropped_row link rows a s.askers;
}
