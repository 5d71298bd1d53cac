-- Who asks the rows, as requests begin, branches end, and links go down; and how many rows a link has asked.
use Rattle.std.proofs.Common.{◌≡◌, ℕ, suc, ◌==◌, ◌&&◌, ◌||◌, not, Bool, true, false, cond, List, [], ◌∷◌, ◌++◌, filter, length, Option, Some, None, refl, sym, ap, ◌∙◌}
use Rattle.std.specs.List.{find, list_all, list_any}
use Rattle.std.specs.Option.{option_and_then, option_map_or, option_to_list}
use Rattle.std.proofs.lemmas.Bool.{and_from, eq-eqb, eqb-true, false≢true, not-true, not_from_false}
use Rattle.std.proofs.lemmas.List.Folds.{list_any-append}
use Rattle.zr_id.specs.declared.link.LinkNo.{LinkNo}
use Rattle.zr_pend_spec.specs.declared.branch.Asker.{Asker}
use Rattle.zr_pend_spec.specs.declared.branch.Branch.{Branch}
use Rattle.zr_pend_spec.specs.Row.{RowState, has, is_asked_by, is_branch, is_done, is_last, is_of, without}
use Rattle.zr_pend_spec.specs.Pending.{IsSound, all_finished, all_orphaned, are_distinct, asked, askers_differ, branch, branches, branches_on, count, dropped, final_to, finals, finals_of_drop, finished, is_pending}
use Rattle.zr_pend_numbers.specs.Numbers.{Uses, is_in, is_used, rises, used_on}
use Rattle.zr_pend_numbers.proofs.InUse.{same_used}
use Rattle.zr_lists.proofs.Parts.{and_left, and_right}
use Rattle.zr_pend_rows.specs.Tied.{AreAsked, as_asker, as_branch}
use Rattle.zr_pend_spec.proofs.Branches.{distinct_apart, distinct_behind}
use Rattle.zr_pend_spec.proofs.Dropped.{in_order}
use Rattle.zr_pend_spec.proofs.OneEnd.{done_is_last}
use Rattle.zr_pend_spec.proofs.OneRow.{none_last, row_stays, rows_stay}
use Rattle.zr_pend_spec.proofs.Readings.{alone}
use Rattle.zr_pend_spec.proofs.Sound.{all_orphaned_sound, any_branch, finished_sound}
use Rattle.zr_pend_rows.proofs.OnLinks.{differs, in_order_by}

-- the number of a branch is that of who asked
abbrev pub is_who : Branch → Option Asker → Bool
is_who c asker = option_map_or (λ a. is_branch c (as_branch a)) asker false

-- ---- one branch ends

-- who gets the final asked a row
final_asked : (c : Branch) (rows : List RowState) (b : Branch) → is_who c (final_to rows b) ≡ true → asked (as_asker c) rows ≡ true
final_asked c [] b h = h
final_asked c (r ∷ rows) b h = by (is_last b r) h (final_asked c rows b)
  where
    left : (s t : Bool) → s ≡ true → (s || t) ≡ true
    left s t e = ap (λ u. u || t) e

    right : (s t : Bool) → t ≡ true → (s || t) ≡ true
    right true t e = refl
    right false t e = e

    by : (t : Bool) → is_who c (option_and_then (λ (x : RowState). x.asker) (cond t (Some r) (find (λ x. is_last b x) rows))) ≡ true → (is_who c (final_to rows b) ≡ true → asked (as_asker c) rows ≡ true)
        → (is_asked_by (as_asker c) r || asked (as_asker c) rows) ≡ true
    by true k ih = left _ _ k
    by false k ih = right _ _ (ih k)

-- its asker asks no more where it gets the final, and all others ask as before
pub asked_left : (c : Branch) (rows : List RowState) (b : Branch) → list_all (λ r. not (is_done r)) rows ≡ true → are_distinct (branches rows) ≡ true → askers_differ rows ≡ true →
    asked (as_asker c) (finished rows b) ≡ (not (is_who c (final_to rows b)) && asked (as_asker c) rows)
asked_left c [] b p d s = refl
asked_left c (r ∷ rows) b p d s = by (has b r) refl (is_asked_by (as_asker c) r) refl (asked_left c rows b (and_right _ _ p) (distinct_behind r.branches (branches rows) d) (and_right _ _ s))
  where
    -- no other row is asked by the same
    no_other : is_asked_by (as_asker c) r ≡ true → asked (as_asker c) rows ≡ false
    no_other e = alone r rows (as_asker c) s e

    -- the row has the branch
    here : has b r ≡ true → (last : Bool) → is_last b r ≡ last → (mine : Bool) → is_asked_by (as_asker c) r ≡ mine
        → asked (as_asker c) (cond (not last) (without b r ∷ rows) rows) ≡ (not (is_who c (cond last r.asker None)) && (mine || asked (as_asker c) rows))
    here h true l true m = no_other m ∙ ap (λ t. not t && true) (sym m)
    here h true l false m = ap (λ t. not t && asked (as_asker c) rows) (sym m)
    here h false l mine m = ap (λ t. t || asked (as_asker c) rows) m

    -- it doesn't
    there : (mine : Bool) → is_asked_by (as_asker c) r ≡ mine → (w : Bool) → is_who c (final_to rows b) ≡ w → asked (as_asker c) (finished rows b) ≡ (not w && asked (as_asker c) rows)
        → (mine || asked (as_asker c) (finished rows b)) ≡ (not w && (mine || asked (as_asker c) rows))
    there true m true e ih = absurd (false≢true (sym (no_other m) ∙ final_asked c rows b e))
    there true m false e ih = refl
    there false m w e ih = ih

    by : (t : Bool) → has b r ≡ t → (mine : Bool) → is_asked_by (as_asker c) r ≡ mine → asked (as_asker c) (finished rows b) ≡ (not (is_who c (final_to rows b)) && asked (as_asker c) rows)
        → asked (as_asker c) (finished (r ∷ rows) b) ≡ (not (is_who c (final_to (r ∷ rows) b)) && (is_asked_by (as_asker c) r || asked (as_asker c) rows))
    by true h mine m ih =
        let apart : is_pending b rows ≡ false = sym (any_branch b rows) ∙ distinct_apart r.branches (branches rows) b d h in
        let stays : finished rows b ≡ rows = rows_stay b rows apart (and_right _ _ p) in
        let final : final_to (r ∷ rows) b ≡ cond (is_last b r) r.asker None = final_here (is_last b r) (none_last b rows apart) in
        ap (λ z. asked (as_asker c) (cond (not (is_done (without b r))) (without b r ∷ z) z)) stays
        ∙ ap (λ t. asked (as_asker c) (cond (not t) (without b r ∷ rows) rows)) (done_is_last b r h)
        ∙ here h (is_last b r) refl mine m
        ∙ ap (λ t. not (is_who c (cond (is_last b r) r.asker None)) && (t || asked (as_asker c) rows)) (sym m)
        ∙ ap (λ o. not (is_who c o) && (is_asked_by (as_asker c) r || asked (as_asker c) rows)) (sym final)
      where
        final_here : (last : Bool) → find (λ x. is_last b x) rows ≡ None → option_and_then (λ (x : RowState). x.asker) (cond last (Some r) (find (λ x. is_last b x) rows)) ≡ cond last r.asker None
        final_here true e = refl
        final_here false e = ap (λ o. option_and_then (λ (x : RowState). x.asker) o) e
    by false h mine m ih =
        let not_last : is_last b r ≡ false = ap (λ t. t && list_all (λ k. is_branch b k) r.branches) h in
        let left : is_done (without b r) ≡ false = ap is_done (row_stays b r h) ∙ not-true _ (and_left _ _ p) in
        ap (λ t. asked (as_asker c) (cond (not t) (without b r ∷ finished rows b) (finished rows b))) left
        ∙ there (is_asked_by (as_asker c) r) refl (is_who c (final_to rows b)) refl ih
        ∙ ap (λ t. not (is_who c (option_and_then (λ (x : RowState). x.asker) (cond t (Some r) (find (λ x. is_last b x) rows)))) && (is_asked_by (as_asker c) r || asked (as_asker c) rows)) (sym not_last)

pub asked_finished : (uses news : Uses) (rows : List RowState) (b : Branch) → IsSound rows → ((c : Branch) → is_used news c ≡ (not (is_who c (final_to rows b)) && is_used uses c)) → AreAsked uses rows → AreAsked news (finished rows b)
asked_finished uses news rows b s e h c =
    e c ∙ ap (λ t. not (is_who c (final_to rows b)) && t) (h c) ∙ sym (asked_left c rows b s.pending s.distinct s.askers)

-- ---- a request begins

pub asked_begun : (uses news : Uses) (rows : List RowState) (from : Asker) (bs : List Branch) → ((c : Branch) → is_used news c ≡ (is_branch c (as_branch from) || is_used uses c)) → AreAsked uses rows
    → AreAsked news (rows ++ record { asker = Some from; branches = bs } ∷ [])
asked_begun uses news rows from bs e h c =
    e c ∙ ap (λ t. is_branch c (as_branch from) || t) (h c) ∙ swap (is_branch c (as_branch from)) (asked (as_asker c) rows)
    ∙ sym (list_any-append (λ (q : RowState). is_asked_by (as_asker c) q) rows (record { asker = Some from; branches = bs } ∷ []))
  where
    swap : (s t : Bool) → (s || t) ≡ (t || (s || false))
    swap true true = refl
    swap true false = refl
    swap false true = refl
    swap false false = refl

-- who has asked nothing is put in and taken out again
pub taken_back : (uses with back : Uses) (b : Branch) → is_used uses b ≡ false → ((c : Branch) → is_used with c ≡ (is_branch c b || is_used uses c)) → ((c : Branch) → is_used back c ≡ (not (is_branch c b) && is_used with c))
    → (c : Branch) → is_used back c ≡ is_used uses c
taken_back uses with back b fresh put take c = take c ∙ ap (λ t. not (is_branch c b) && t) (put c) ∙ by (is_branch c b) refl
  where
    by : (t : Bool) → is_branch c b ≡ t → (not t && (t || is_used uses c)) ≡ is_used uses c
    by true e = sym (sym (same_used uses b c e) ∙ fresh)
    by false e = refl

-- ---- a link goes down

asked_orphaned : (link : LinkNo) (c : Branch) (rows : List RowState) → asked (as_asker c) (all_orphaned link rows) ≡ (not (c.link.0 == link.0) && asked (as_asker c) rows)
asked_orphaned link c [] = none (c.link.0 == link.0)
  where
    none : (t : Bool) → false ≡ (not t && false)
    none true = refl
    none false = refl
asked_orphaned link c (r ∷ rows) =
    ap (λ t. t || asked (as_asker c) (all_orphaned link rows)) (one r.asker refl)
    ∙ ap (λ t. (not (c.link.0 == link.0) && is_asked_by (as_asker c) r) || t) (asked_orphaned link c rows)
    ∙ both (c.link.0 == link.0) (is_asked_by (as_asker c) r) (asked (as_asker c) rows)
  where
    both : (t u v : Bool) → ((not t && u) || (not t && v)) ≡ (not t && (u || v))
    both true u v = refl
    both false u v = refl

    of_none : (t : Bool) → false ≡ (not t && false)
    of_none true = refl
    of_none false = refl

    -- an asker on the link, and one on another
    on_link : (a : Asker) (t : Bool) → (a.link.0 == link.0) ≡ t → is_who c (cond t None (Some a)) ≡ (not (c.link.0 == link.0) && is_branch c (as_branch a))
    on_link a true e = at (is_branch c (as_branch a)) refl
      where
        at : (t : Bool) → is_branch c (as_branch a) ≡ t → false ≡ (not (c.link.0 == link.0) && t)
        at true h =
            let f : (c.link.0 == link.0) ≡ true = eq-eqb c.link.0 link.0 (sym (eqb-true a.link.0 c.link.0 (and_left _ _ h)) ∙ eqb-true a.link.0 link.0 e) in
            ap (λ t. not t && true) (sym f)
        at false h = of_none (c.link.0 == link.0)
    on_link a false e = at (is_branch c (as_branch a)) refl
      where
        at : (t : Bool) → is_branch c (as_branch a) ≡ t → t ≡ (not (c.link.0 == link.0) && t)
        at true h =
            let f : (c.link.0 == link.0) ≡ false = ap (λ n. n == link.0) (sym (eqb-true a.link.0 c.link.0 (and_left _ _ h))) ∙ e in
            ap (λ t. not t && true) (sym f)
        at false h = of_none (c.link.0 == link.0)

    one : (o : Option Asker) → r.asker ≡ o
        → is_asked_by (as_asker c) (cond (option_map_or (λ (a : Asker). a.link.0 == link.0) o false) (record { asker = None; branches = r.branches }) r) ≡ (not (c.link.0 == link.0) && is_who c o)
    one None e = ap (λ o. is_who c o) e ∙ of_none (c.link.0 == link.0)
    one (Some a) e = by (a.link.0 == link.0) refl
      where
        by : (t : Bool) → (a.link.0 == link.0) ≡ t → is_asked_by (as_asker c) (cond t (record { asker = None; branches = r.branches }) r) ≡ (not (c.link.0 == link.0) && is_branch c (as_branch a))
        by true f = on_link a true f
        by false f = ap (λ o. is_who c o) e ∙ on_link a false f

-- those who get a final meanwhile
abbrev pub is_one_of : Branch → List Asker → Bool
is_one_of c askers = list_any (λ a. is_branch c (as_branch a)) askers

asked_all : (c : Branch) (rows : List RowState) (bs : List Branch) → IsSound rows → asked (as_asker c) (all_finished rows bs) ≡ (not (is_one_of c (finals rows bs)) && asked (as_asker c) rows)
asked_all c rows [] s = refl
asked_all c rows (b ∷ bs) s =
    asked_all c (finished rows b) bs (finished_sound rows b s)
    ∙ ap (λ t. not (is_one_of c (finals (finished rows b) bs)) && t) (asked_left c rows b s.pending s.distinct s.askers)
    ∙ by (final_to rows b)
  where
    turn : (s t u : Bool) → (not t && (not s && u)) ≡ (not (s || t) && u)
    turn true true u = refl
    turn true false u = refl
    turn false t u = refl

    by : (o : Option Asker) → (not (is_one_of c (finals (finished rows b) bs)) && (not (is_who c o) && asked (as_asker c) rows)) ≡ (not (is_one_of c (option_to_list o ++ finals (finished rows b) bs)) && asked (as_asker c) rows)
    by None = refl
    by (Some a) = turn (is_branch c (as_branch a)) (is_one_of c (finals (finished rows b) bs)) (asked (as_asker c) rows)

pub asked_dropped : (uses off news : Uses) (rows : List RowState) (link : LinkNo) → IsSound rows → ((c : Branch) → is_used off c ≡ (not (c.link.0 == link.0) && is_used uses c))
    → ((c : Branch) → is_used news c ≡ (not (is_one_of c (finals_of_drop link rows)) && is_used off c)) → AreAsked uses rows → AreAsked news (dropped link rows)
asked_dropped uses off news rows link s forget take h c =
    take c
    ∙ ap (λ t. not (is_one_of c (finals_of_drop link rows)) && t) (forget c ∙ ap (λ t. not (c.link.0 == link.0) && t) (h c) ∙ sym (asked_orphaned link c rows))
    ∙ sym (asked_all c (all_orphaned link rows) (branches_on link rows) (all_orphaned_sound link rows s))

-- ---- how many rows a link has asked

-- the numbers under which it has
abbrev asked_on : LinkNo → List RowState → List ℕ
asked_on link [] = []
asked_on link (r ∷ rows) = option_map_or (λ (a : Asker). cond (a.link.0 == link.0) (a.number ∷ asked_on link rows) (asked_on link rows)) r.asker (asked_on link rows)

asked_many : (link : LinkNo) (rows : List RowState) → length (asked_on link rows) ≡ count link rows
asked_many link [] = refl
asked_many link (r ∷ rows) = of r.asker (asked_many link rows)
  where
    of : (o : Option Asker) → length (asked_on link rows) ≡ count link rows
        → length (option_map_or (λ (a : Asker). cond (a.link.0 == link.0) (a.number ∷ asked_on link rows) (asked_on link rows)) o (asked_on link rows))
        ≡ length (cond (option_map_or (λ (a : Asker). a.link.0 == link.0) o false) (r ∷ filter (λ q. is_of link q) rows) (filter (λ q. is_of link q) rows))
    of None ih = ih
    of (Some a) ih = by (a.link.0 == link.0)
      where
        by : (t : Bool) → length (cond t (a.number ∷ asked_on link rows) (asked_on link rows)) ≡ length (cond t (r ∷ filter (λ q. is_of link q) rows) (filter (λ q. is_of link q) rows))
        by true = ap (λ n. suc n) ih
        by false = ih

asked_in : (link : LinkNo) (n : ℕ) (rows : List RowState) → is_in n (asked_on link rows) ≡ asked (as_asker (branch link n)) rows
asked_in link n [] = refl
asked_in link n (r ∷ rows) = of r.asker (asked_in link n rows)
  where
    of : (o : Option Asker) → is_in n (asked_on link rows) ≡ asked (as_asker (branch link n)) rows
        → is_in n (option_map_or (λ (a : Asker). cond (a.link.0 == link.0) (a.number ∷ asked_on link rows) (asked_on link rows)) o (asked_on link rows)) ≡ (is_who (branch link n) o || asked (as_asker (branch link n)) rows)
    of None ih = ih
    of (Some a) ih = by (a.link.0 == link.0)
      where
        by : (t : Bool) → is_in n (cond t (a.number ∷ asked_on link rows) (asked_on link rows)) ≡ ((t && a.number == n) || asked (as_asker (branch link n)) rows)
        by true = ap (λ t. a.number == n || t) ih
        by false = ih

asked_differ : (link : LinkNo) (rows : List RowState) → askers_differ rows ≡ true → differs (asked_on link rows) ≡ true
asked_differ link [] s = refl
asked_differ link (r ∷ rows) s = of r.asker (and_left _ _ s) (asked_differ link rows (and_right _ _ s))
  where
    of : (o : Option Asker) → not (option_map_or (λ a. asked a rows) o false) ≡ true → differs (asked_on link rows) ≡ true
        → differs (option_map_or (λ (a : Asker). cond (a.link.0 == link.0) (a.number ∷ asked_on link rows) (asked_on link rows)) o (asked_on link rows)) ≡ true
    of None alone ih = ih
    of (Some a) alone ih = by (a.link.0 == link.0) refl
      where
        by : (t : Bool) → (a.link.0 == link.0) ≡ t → differs (cond t (a.number ∷ asked_on link rows) (asked_on link rows)) ≡ true
        by true e =
            let same : asked (as_asker (branch link a.number)) rows ≡ false =
            ap (λ n. asked (record { link = record { 0 = n }; number = a.number }) rows) (sym (eqb-true a.link.0 link.0 e)) ∙ not-true _ alone in
            and_from _ _ (not_from_false _ (asked_in link a.number rows ∙ same)) ih
        by false e = ih

pub asked_count : (uses : Uses) (rows : List RowState) (link : LinkNo) → IsSound rows → AreAsked uses rows → rises 0 (used_on uses link.0) ≡ true → length (used_on uses link.0) ≡ count link rows
asked_count uses rows link s h up =
    ap (λ ns. length ns) (in_order_by (used_on uses link.0) (asked_on link rows) up (asked_differ link rows s.askers) (λ k. h (branch link k) ∙ sym (asked_in link k rows)))
    ∙ (in_order (asked_on link rows)).as_many
    ∙ asked_many link rows
