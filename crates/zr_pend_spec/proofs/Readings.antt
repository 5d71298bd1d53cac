-- What the rows of pending requests say, once a request has begun and once a branch has ended: for whom a branch is pending, whether a request
-- is kept, and the branches of who asked.
use Rattle.std.proofs.Common.{◌≡◌, ℕ, suc, length, arith, ◌==◌, ◌&&◌, ◌||◌, not, Bool, true, false, cond, List, [], ◌∷◌, ◌++◌, append-nil, map, filter, Option, Some, None, refl, sym, ap, ◌∙◌}
use Rattle.std.specs.List.{list_any, list_all, find}
use Rattle.std.specs.Option.{option_map, option_map_or, option_and_then}
use Rattle.std.proofs.lemmas.Bool.{eqb-true, eq-eqb, false_from_ne_true, false≢true, and_parts, and_from, not-true}
use Rattle.std.proofs.lemmas.Grind.{flat_map-append}
use Rattle.std.proofs.lemmas.List.Folds.{list_any-append}
use Rattle.zr_id.specs.declared.link.LinkNo.{LinkNo}
use Rattle.zr_lists.proofs.Parts.{and_left, and_right}
use Rattle.zr_pend_spec.specs.declared.branch.Asker.{Asker}
use Rattle.zr_pend_spec.specs.declared.branch.Branch.{Branch}
use Rattle.zr_pend_spec.specs.Readings.{back, row_of, new_row, but_for, final_if_none, IsBegun, IsFinished}
use Rattle.zr_pend_spec.specs.Row.{RowState, is_branch, has, is_last, is_done, is_asked_by, numbers_of, without}
use Rattle.zr_pend_spec.specs.Pending.{asked, askers_differ, is_pending, branch, branches, are_distinct, numbers_on, opened, begun, differ, finished, final_to, free_number, IsSound}
use Rattle.zr_pend_spec.proofs.Branches.{is_branch_alike, distinct_apart, distinct_behind}
use Rattle.zr_pend_spec.proofs.Sound.{any_branch, free_of_number}
use Rattle.zr_pend_spec.proofs.OneRow.{none_last}

abbrev row_asker : Option RowState → Option (Option Asker)
row_asker o = option_map (λ (r : RowState). r.asker) o

found_first : (p : RowState → Bool) (rows more : List RowState) → row_asker (find p (rows ++ more)) ≡ cond (list_any p rows) (row_asker (find p rows)) (row_asker (find p more))
found_first p [] more = refl
found_first p (r ∷ rows) more = by (p r) (found_first p rows more)
  where
    by : (b : Bool) → row_asker (find p (rows ++ more)) ≡ cond (list_any p rows) (row_asker (find p rows)) (row_asker (find p more)) →
        row_asker (cond b (Some r) (find p (rows ++ more))) ≡ cond (b || list_any p rows) (row_asker (cond b (Some r) (find p rows))) (row_asker (find p more))
    by true ih = refl
    by false ih = ih

-- ---- a request begins

pub begun_back : (rows : List RowState) (from : Asker) (to : List LinkNo) (b : Branch) →
    back (begun rows from to) b ≡ cond (is_pending b rows) (back rows b) (cond (has b (new_row rows from to)) (Some (Some from)) None)
begun_back rows from to b = found_first (λ r. has b r) rows (new_row rows from to ∷ []) ∙ by (has b (new_row rows from to))
  where
    by : (c : Bool) → cond (is_pending b rows) (back rows b) (row_asker (cond c (Some (new_row rows from to)) None)) ≡ cond (is_pending b rows) (back rows b) (cond c (Some (Some from)) None)
    by true = refl
    by false = refl

pub begun_kept : (rows : List RowState) (from : Asker) (to : List LinkNo) (a : Asker) → asked a (begun rows from to) ≡ (asked a rows || (is_asked_by a (new_row rows from to) || false))
begun_kept rows from to a = list_any-append (λ r. is_asked_by a r) rows (new_row rows from to ∷ [])

pub begun_row : (rows : List RowState) (from : Asker) (to : List LinkNo) (a : Asker) →
    row_of a (begun rows from to) ≡ cond (asked a rows) (row_of a rows) (cond (is_asked_by a (new_row rows from to)) (opened rows to) [])
begun_row rows from to a = go rows
  where
    new : RowState
    new = new_row rows from to

    go : (rs : List RowState) → row_of a (rs ++ new ∷ []) ≡ cond (asked a rs) (row_of a rs) (cond (is_asked_by a new) (opened rows to) [])
    go [] = by (is_asked_by a new)
      where
        by : (c : Bool) → option_map_or (λ (r : RowState). r.branches) (cond c (Some new) None) [] ≡ cond c (opened rows to) []
        by true = refl
        by false = refl
    go (r ∷ rs) = by (is_asked_by a r) (go rs)
      where
        by : (c : Bool) → row_of a (rs ++ new ∷ []) ≡ cond (asked a rs) (row_of a rs) (cond (is_asked_by a new) (opened rows to) []) →
            option_map_or (λ (r : RowState). r.branches) (cond c (Some r) (find (λ r. is_asked_by a r) (rs ++ new ∷ []))) []
            ≡ cond (c || asked a rs) (option_map_or (λ (r : RowState). r.branches) (cond c (Some r) (find (λ r. is_asked_by a r) rs)) []) (cond (is_asked_by a new) (opened rows to) [])
        by true ih = refl
        by false ih = ih

-- on each of the links that differ one number more is pending
opened_numbers : (link : LinkNo) (rows : List RowState) (to : List LinkNo) → differ to ≡ true →
    map (λ (b : Branch). b.number) (filter (λ (b : Branch). b.link.0 == link.0) (opened rows to)) ≡ cond (list_any (λ l. l.0 == link.0) to) (free_number link rows ∷ []) []
opened_numbers link rows [] h = refl
opened_numbers link rows (l ∷ ls) h = by (l.0 == link.0) refl (opened_numbers link rows ls (and_right _ _ h))
  where
    here : List LinkNo → List ℕ
    here ks = map (λ (b : Branch). b.number) (filter (λ (b : Branch). b.link.0 == link.0) (opened rows ks))

    by : (t : Bool) → (l.0 == link.0) ≡ t → here ls ≡ cond (list_any (λ k. k.0 == link.0) ls) (free_number link rows ∷ []) [] →
        map (λ (b : Branch). b.number) (cond t (branch l (free_number l rows) ∷ filter (λ (b : Branch). b.link.0 == link.0) (opened rows ls)) (filter (λ (b : Branch). b.link.0 == link.0) (opened rows ls)))
        ≡ cond (t || list_any (λ k. k.0 == link.0) ls) (free_number link rows ∷ []) []
    by true e ih =
        let same : l.0 ≡ link.0 = eqb-true l.0 link.0 e in
        let none : list_any (λ k. k.0 == link.0) ls ≡ false = ap (λ n. list_any (λ k. k.0 == n) ls) (sym same) ∙ not-true _ (and_left _ _ h) in
        ap (λ ns. free_number l rows ∷ ns) (ih ∙ ap (λ t. cond t (free_number link rows ∷ []) []) none) ∙ ap (λ n. n ∷ []) (free_of_number l link rows same)
    by false e ih = ih

pub begun_numbers : (rows : List RowState) (from : Asker) (to : List LinkNo) (link : LinkNo) → differ to ≡ true →
    numbers_on link (begun rows from to) ≡ numbers_on link rows ++ cond (list_any (λ l. l.0 == link.0) to) (free_number link rows ∷ []) []
begun_numbers rows from to link h =
    flat_map-append (λ (r : RowState). numbers_of link r) rows (new_row rows from to ∷ [])
    ∙ ap (λ ns. numbers_on link rows ++ ns) (append-nil (numbers_of link (new_row rows from to)) ∙ opened_numbers link rows to h)

pub begun_is : (rows : List RowState) (from : Asker) (to : List LinkNo) → IsBegun rows from to
begun_is rows from to = record { back_is = begun_back rows from to; kept = begun_kept rows from to; row = begun_row rows from to; numbers = begun_numbers rows from to }

-- ---- a branch ends

is_branch_swap : (b c d : Branch) → is_branch b d ≡ true → is_branch c d ≡ true → is_branch b c ≡ true
is_branch_swap b c d e f =
    let e0 = and_parts (d.link.0 == b.link.0) (d.number == b.number) e in
    let f0 = and_parts (d.link.0 == c.link.0) (d.number == c.number) f in
    and_from (c.link.0 == b.link.0) (c.number == b.number)
    (eq-eqb c.link.0 b.link.0 (sym (eqb-true d.link.0 c.link.0 f0.0) ∙ eqb-true d.link.0 b.link.0 e0.0))
    (eq-eqb c.number b.number (sym (eqb-true d.number c.number f0.1) ∙ eqb-true d.number b.number e0.1))

-- a row has what it had, but for the branch that ended
has_left : (b c : Branch) (bs : List Branch) → list_any (λ d. is_branch c d) (filter (λ d. not (is_branch b d)) bs) ≡ (not (is_branch b c) && list_any (λ d. is_branch c d) bs)
has_left b c [] = by (is_branch b c)
  where
    by : (t : Bool) → false ≡ (not t && false)
    by true = refl
    by false = refl
has_left b c (d ∷ ds) = by (is_branch b d) refl (is_branch c d) refl (is_branch b c) refl (has_left b c ds)
  where
    by : (t : Bool) → is_branch b d ≡ t → (u : Bool) → is_branch c d ≡ u → (v : Bool) → is_branch b c ≡ v →
        list_any (λ x. is_branch c x) (filter (λ x. not (is_branch b x)) ds) ≡ (not v && list_any (λ x. is_branch c x) ds) →
        list_any (λ x. is_branch c x) (cond (not t) (d ∷ filter (λ x. not (is_branch b x)) ds) (filter (λ x. not (is_branch b x)) ds)) ≡ (not v && (u || list_any (λ x. is_branch c x) ds))
    by true et true eu true ev ih = ih
    by true et true eu false ev ih = absurd (false≢true (sym ev ∙ is_branch_swap b c d et eu))
    by true et false eu v ev ih = ih
    by false et true eu true ev ih = absurd (false≢true (sym et ∙ is_branch_alike b c d ev ∙ eu))
    by false et true eu false ev ih = ap (λ z. z || list_any (λ x. is_branch c x) (filter (λ x. not (is_branch b x)) ds)) eu
    by false et false eu v ev ih = ap (λ z. z || list_any (λ x. is_branch c x) (filter (λ x. not (is_branch b x)) ds)) eu ∙ ih

-- a row without branches has none
pub none_done : (c : Branch) (bs : List Branch) → (length bs == 0) ≡ true → list_any (λ d. is_branch c d) bs ≡ false
none_done c [] e = refl
none_done c (d ∷ ds) e = absurd (suc≢zero (eqb-true (suc (length ds)) 0 e))
  where
    suc≢zero : suc (length ds) ≡ 0 → ⊥
    suc≢zero k = omega (arith, k)

abbrev nothing : Option (Option Asker)
nothing = None

pub finished_back : (rows : List RowState) (b c : Branch) → back (finished rows b) c ≡ cond (is_branch b c) None (back rows c)
finished_back [] b c = by (is_branch b c)
  where
    by : (t : Bool) → nothing ≡ cond t nothing nothing
    by true = refl
    by false = refl
finished_back (r ∷ rows) b c = by (is_done (without b r)) refl (is_branch b c) refl (has c r) refl (has_left b c r.branches) (finished_back rows b c)
  where
    rest : List RowState
    rest = finished rows b

    by : (t : Bool) → is_done (without b r) ≡ t → (v : Bool) → is_branch b c ≡ v → (u : Bool) → has c r ≡ u → has c (without b r) ≡ (not (is_branch b c) && has c r) → back rest c ≡ cond (is_branch b c) None (back rows c) →
        back (cond (not t) (without b r ∷ rest) rest) c ≡ cond v None (row_asker (cond u (Some r) (find (λ x. has c x) rows)))
    by true et true ev u eu left ih = ih ∙ ap (λ z. cond z None (back rows c)) ev
    by true et false ev true eu left ih = absurd (false≢true (sym (none_done c (without b r).branches et) ∙ left ∙ ap (λ z. not z && has c r) ev ∙ eu))
    by true et false ev false eu left ih = ih ∙ ap (λ z. cond z None (back rows c)) ev
    by false et true ev u eu left ih = ap (λ z. row_asker (cond z (Some (without b r)) (find (λ x. has c x) rest))) (left ∙ ap (λ z. not z && has c r) ev) ∙ ih ∙ ap (λ z. cond z None (back rows c)) ev
    by false et false ev true eu left ih = ap (λ z. row_asker (cond z (Some (without b r)) (find (λ x. has c x) rest))) (left ∙ ap (λ z. not z && has c r) ev ∙ eu)
    by false et false ev false eu left ih = ap (λ z. row_asker (cond z (Some (without b r)) (find (λ x. has c x) rest))) (left ∙ ap (λ z. not z && has c r) ev ∙ eu) ∙ ih ∙ ap (λ z. cond z None (back rows c)) ev

-- ---- each asker has one row

-- a row whose asker asks none of the others
pub one_row : (a : Asker) (o : Option Asker) (rows : List RowState) → o ≡ Some a → option_map_or (λ z. asked z rows) o false ≡ false → asked a rows ≡ false
one_row a None rows e k = cc
one_row a (Some z) rows e k = ap (λ u. option_map_or (λ z. asked z rows) u false) (sym e) ∙ k

pub asker_at : (a : Asker) (o : Option Asker) → option_map_or (λ z. z.link.0 == a.link.0 && z.number == a.number) o false ≡ true → o ≡ Some a
asker_at a None e = absurd (false≢true e)
asker_at a (Some z) e =
    let parts = and_parts (z.link.0 == a.link.0) (z.number == a.number) e in
    let e0 : z.link.0 ≡ a.link.0 = eqb-true z.link.0 a.link.0 parts.0 in
    let e1 : z.number ≡ a.number = eqb-true z.number a.number parts.1 in
    λ i. Some (record { link = record { 0 = e0 i }; number = e1 i })

pub asks_itself : (a : Asker) (r : RowState) → r.asker ≡ Some a → is_asked_by a r ≡ true
asks_itself a r e = ap (λ o. option_map_or (λ z. z.link.0 == a.link.0 && z.number == a.number) o false) e
    ∙ and_from (a.link.0 == a.link.0) (a.number == a.number) (eq-eqb a.link.0 a.link.0 refl) (eq-eqb a.number a.number refl)

abbrev inner : (a : Asker) → Option (Option Asker) → Option Asker
inner a None = None
inner a (Some o) = o

back_asked : (rows : List RowState) (b : Branch) (a : Asker) → back rows b ≡ Some (Some a) → asked a rows ≡ true
back_asked [] b a e = cc
back_asked (r ∷ rows) b a e = by (has b r) e (back_asked rows b a)
  where
    or_right : (u v : Bool) → v ≡ true → (u || v) ≡ true
    or_right true v e = refl
    or_right false v e = e

    by : (t : Bool) → row_asker (cond t (Some r) (find (λ x. has b x) rows)) ≡ Some (Some a) → (back rows b ≡ Some (Some a) → asked a rows ≡ true) → (is_asked_by a r || asked a rows) ≡ true
    by true k ih = ap (λ u. u || asked a rows) (asks_itself a r (ap (inner a) k))
    by false k ih = or_right (is_asked_by a r) (asked a rows) (ih k)

-- no other row is asked by the asker of the first one
pub alone : (r : RowState) (rows : List RowState) (a : Asker) → askers_differ (r ∷ rows) ≡ true → is_asked_by a r ≡ true → asked a rows ≡ false
alone r rows a s e = one_row a r.asker rows (asker_at a r.asker e) (not_is (option_map_or (λ z. asked z rows) r.asker false) (and_parts (not (option_map_or (λ z. asked z rows) r.asker false)) (askers_differ rows) s).0)
  where
    not_is : (b : Bool) → not b ≡ true → b ≡ false
    not_is true e = sym e
    not_is false e = refl

-- the branch of who asked stands in that row
pub in_row : (rows : List RowState) (b : Branch) (a : Asker) → askers_differ rows ≡ true → back rows b ≡ Some (Some a) → list_any (λ c. is_branch b c) (row_of a rows) ≡ true
in_row [] b a s e = cc
in_row (r ∷ rows) b a s e = by (has b r) refl (is_asked_by a r) refl e (in_row rows b a (and_parts (not (option_map_or (λ z. asked z rows) r.asker false)) (askers_differ rows) s).1)
  where
    by : (t : Bool) → has b r ≡ t → (u : Bool) → is_asked_by a r ≡ u → row_asker (cond t (Some r) (find (λ x. has b x) rows)) ≡ Some (Some a) →
        (back rows b ≡ Some (Some a) → list_any (λ c. is_branch b c) (row_of a rows) ≡ true) →
        list_any (λ c. is_branch b c) (option_map_or (λ (x : RowState). x.branches) (cond u (Some r) (find (λ x. is_asked_by a x) rows)) []) ≡ true
    by true et true eu k ih = et
    by true et false eu k ih = absurd (false≢true (sym eu ∙ asks_itself a r (ap (inner a) k)))
    by false et true eu k ih = absurd (false≢true (sym (alone r rows a s eu) ∙ back_asked rows b a k))
    by false et false eu k ih = ih k

pub no_row : (a : Asker) (rows : List RowState) → asked a rows ≡ false → row_of a rows ≡ []
no_row a [] e = refl
no_row a (r ∷ rows) e = by (is_asked_by a r) e (no_row a rows)
  where
    by : (u : Bool) → (u || asked a rows) ≡ false → (asked a rows ≡ false → row_of a rows ≡ []) → option_map_or (λ (x : RowState). x.branches) (cond u (Some r) (find (λ x. is_asked_by a x) rows)) [] ≡ []
    by true e ih = cc
    by false e ih = ih e

empty_of_done : (bs : List Branch) → (length bs == 0) ≡ true → bs ≡ []
empty_of_done [] e = refl
empty_of_done (d ∷ ds) e = absurd (suc≢zero (eqb-true (suc (length ds)) 0 e))
  where
    suc≢zero : suc (length ds) ≡ 0 → ⊥
    suc≢zero k = omega (arith, k)

-- its row loses the branch, and no other does
pub finished_row : (rows : List RowState) (b : Branch) (a : Asker) → askers_differ rows ≡ true → row_of a (finished rows b) ≡ filter (λ c. not (is_branch b c)) (row_of a rows)
finished_row [] b a s = refl
finished_row (r ∷ rows) b a s = by (is_done (without b r)) refl (is_asked_by a r) refl (finished_row rows b a (and_parts (not (option_map_or (λ z. asked z rows) r.asker false)) (askers_differ rows) s).1)
  where
    left : List Branch → List Branch
    left bs = filter (λ c. not (is_branch b c)) bs

    by : (t : Bool) → is_done (without b r) ≡ t → (u : Bool) → is_asked_by a r ≡ u → row_of a (finished rows b) ≡ left (row_of a rows) →
        row_of a (cond (not t) (without b r ∷ finished rows b) (finished rows b)) ≡ left (option_map_or (λ (x : RowState). x.branches) (cond u (Some r) (find (λ x. is_asked_by a x) rows)) [])
    by true et true eu ih = ih ∙ ap left (no_row a rows (alone r rows a s eu)) ∙ sym (empty_of_done (without b r).branches et)
    by true et false eu ih = ih
    by false et true eu ih = ap (λ u. option_map_or (λ (x : RowState). x.branches) (cond u (Some (without b r)) (find (λ x. is_asked_by a x) (finished rows b))) []) eu
    by false et false eu ih = ap (λ u. option_map_or (λ (x : RowState). x.branches) (cond u (Some (without b r)) (find (λ x. is_asked_by a x) (finished rows b))) []) eu ∙ ih

-- who asked is kept while a branch of its is left
pub finished_kept : (rows : List RowState) (b : Branch) (a : Asker) → askers_differ rows ≡ true → asked a (finished rows b) ≡ (asked a rows && not (length (filter (λ c. not (is_branch b c)) (row_of a rows)) == 0))
finished_kept [] b a s = refl
finished_kept (r ∷ rows) b a s = by (is_done (without b r)) refl (is_asked_by a r) refl (finished_kept rows b a (and_parts (not (option_map_or (λ z. asked z rows) r.asker false)) (askers_differ rows) s).1)
  where
    many : List Branch → Bool
    many bs = not (length (filter (λ c. not (is_branch b c)) bs) == 0)

    by : (t : Bool) → is_done (without b r) ≡ t → (u : Bool) → is_asked_by a r ≡ u → asked a (finished rows b) ≡ (asked a rows && many (row_of a rows)) →
        asked a (cond (not t) (without b r ∷ finished rows b) (finished rows b)) ≡ ((u || asked a rows) && many (option_map_or (λ (x : RowState). x.branches) (cond u (Some r) (find (λ x. is_asked_by a x) rows)) []))
    by true et true eu ih = ih ∙ ap (λ z. z && many (row_of a rows)) (alone r rows a s eu) ∙ ap not (sym et)
    by true et false eu ih = ih
    by false et true eu ih = ap (λ u. u || asked a (finished rows b)) eu ∙ ap not (sym et)
    by false et false eu ih = ap (λ u. u || asked a (finished rows b)) eu ∙ ih

-- ---- who gets a final

-- no branch but these is left where all are
none_left : (p : Branch → Bool) (bs : List Branch) → (length (filter (λ c. not (p c)) bs) == 0) ≡ list_all p bs
none_left p [] = refl
none_left p (c ∷ cs) = by (p c) (none_left p cs)
  where
    by : (t : Bool) → (length (filter (λ d. not (p d)) cs) == 0) ≡ list_all p cs → (length (cond (not t) (c ∷ filter (λ d. not (p d)) cs) (filter (λ d. not (p d)) cs)) == 0) ≡ (t && list_all p cs)
    by true ih = ih
    by false ih = false_from_ne_true _ (λ t. let e : suc (length (filter (λ d. not (p d)) cs)) ≡ 0 = eqb-true _ 0 t in absurd (omega arith))

-- who gets the final of a branch that is pending for this one
abbrev answered_to : Branch → List RowState → Option (Option Asker) → Option Asker
answered_to b rows o = option_and_then (λ q. option_and_then (λ a. final_if_none (but_for b (row_of a rows)) a) q) o

-- a row that is another asker's says nothing of that
passed_row : (r : RowState) (rows : List RowState) (b : Branch) (o : Option (Option Asker)) → askers_differ (r ∷ rows) ≡ true → back rows b ≡ o → answered_to b rows o ≡ answered_to b (r ∷ rows) o
passed_row r rows b None s e = refl
passed_row r rows b (Some None) s e = refl
passed_row r rows b (Some (Some a)) s e = by (is_asked_by a r) refl
  where
    by : (t : Bool) → is_asked_by a r ≡ t → final_if_none (but_for b (row_of a rows)) a ≡ final_if_none (but_for b (row_of a (r ∷ rows))) a
    by true f = absurd (false≢true (sym (alone r rows a s f) ∙ back_asked rows b a e))
    by false f = ap (λ t. final_if_none (but_for b (option_map_or (λ (x : RowState). x.branches) (cond t (Some r) (find (λ x. is_asked_by a x) rows)) [])) a) (sym f)

pub final_is : (rows : List RowState) (b : Branch) → are_distinct (branches rows) ≡ true → askers_differ rows ≡ true → final_to rows b ≡ answered_to b rows (back rows b)
final_is [] b d s = refl
final_is (r ∷ rows) b d s = by (has b r) refl (final_is rows b (distinct_behind r.branches (branches rows) d) (and_right _ _ s))
  where
    none : has b r ≡ true → option_and_then (λ (x : RowState). x.asker) (find (λ x. is_last b x) rows) ≡ None
    none h = ap (λ o. option_and_then (λ (x : RowState). x.asker) o) (none_last b rows (sym (any_branch b rows) ∙ distinct_apart r.branches (branches rows) b d h))

    own : (o : Option Asker) → r.asker ≡ o → has b r ≡ true → (t : Bool) → list_all (λ c. is_branch b c) r.branches ≡ t →
        option_and_then (λ (x : RowState). x.asker) (cond t (Some r) (find (λ x. is_last b x) rows)) ≡ option_and_then (λ a. final_if_none (but_for b (row_of a (r ∷ rows))) a) o
    own None e h true f = e
    own None e h false f = none h
    own (Some a) e h t f =
        let mine : is_asked_by a r ≡ true = asks_itself a r e in
        let left : (length (but_for b (row_of a (r ∷ rows))) == 0) ≡ t =
        ap (λ u. length (but_for b (option_map_or (λ (x : RowState). x.branches) (cond u (Some r) (find (λ x. is_asked_by a x) rows)) [])) == 0) mine ∙ none_left (λ c. is_branch b c) r.branches ∙ f in
        said t ∙ ap (λ u. cond u (Some a) None) (sym left)
      where
        said : (t : Bool) → option_and_then (λ (x : RowState). x.asker) (cond t (Some r) (find (λ x. is_last b x) rows)) ≡ cond t (Some a) None
        said true = e
        said false = none h

    by : (t : Bool) → has b r ≡ t → final_to rows b ≡ answered_to b rows (back rows b) →
        option_and_then (λ (x : RowState). x.asker) (cond (t && list_all (λ c. is_branch b c) r.branches) (Some r) (find (λ x. is_last b x) rows)) ≡ answered_to b (r ∷ rows) (row_asker (cond t (Some r) (find (λ x. has b x) rows)))
    by true h ih = own r.asker refl h (list_all (λ c. is_branch b c) r.branches) refl
    by false h ih = ih ∙ passed_row r rows b (back rows b) s refl

pub finished_is : (rows : List RowState) (b : Branch) → IsSound rows → IsFinished rows b
finished_is rows b s = record {
  back_is = finished_back rows b;
  kept = λ a. finished_kept rows b a s.askers;
  row = λ a. finished_row rows b a s.askers;
  final = final_is rows b s.distinct s.askers;
}
