-- Every call leaves a table sound: each row has a branch, and no branch stands twice.
use Rattle.std.proofs.Common.{◌≡◌, ℕ, suc, ◌==◌, ◌&&◌, ◌||◌, ◌<◌, not, Bool, true, false, cond, List, [], ◌∷◌, ◌++◌, map, filter, length, Option, Some, None, refl, sym, ap, ◌∙◌, append-nil, arith}
use Rattle.std.specs.List.{list_any, list_all}
use Rattle.std.specs.Option.{option_map_or}
use Rattle.std.proofs.lemmas.Bool.{eqb-true, eq-eqb, false_from_ne_true, and_from, or_from, or_left, or_right, not-true, not_from_false}
use Rattle.std.proofs.lemmas.Grind.{flat_map-append}
use Rattle.std.proofs.lemmas.List.Elements.{filter-append}
use Rattle.std.proofs.lemmas.List.Folds.{list_any-append, list_all-append}
use Rattle.zr_lists.proofs.Tests.{all_of_filter}
use Rattle.zr_lists.proofs.Parts.{and_left, and_right, left_false, right_false}
use Rattle.zr_id.specs.declared.link.LinkNo.{LinkNo}
use Rattle.zr_pend_spec.specs.declared.branch.Asker.{Asker}
use Rattle.zr_pend_spec.specs.declared.branch.Branch.{Branch}
use Rattle.zr_pend_spec.specs.Row.{RowState, is_branch, has, is_done, is_of, is_asked_by, without, orphaned}
use Rattle.zr_pend_spec.specs.Pending.{asked, askers_differ, is_pending, branch, branches, are_distinct, IsSound, free_number, opened, begun, differ, finished, all_finished, all_orphaned, dropped, branches_on}
use Rattle.zr_pend_spec.proofs.Branches.{any_alike, distinct_filtered, distinct_joined}
use Rattle.zr_pend_spec.proofs.Free.{free_is_free}

-- a branch is pending where it is among all branches
pub any_branch : (b : Branch) (rows : List RowState) → list_any (λ c. is_branch b c) (branches rows) ≡ is_pending b rows
any_branch b [] = refl
any_branch b (r ∷ rows) = list_any-append (λ c. is_branch b c) r.branches (branches rows) ∙ ap (λ t. has b r || t) (any_branch b rows)

-- ---- a request begins

-- what is pending is none of the branches that are opened
opened_apart : (b : Branch) (rows : List RowState) (to : List LinkNo) → is_pending b rows ≡ true → list_any (λ c. is_branch b c) (opened rows to) ≡ false
opened_apart b rows [] h = refl
opened_apart b rows (l ∷ ls) h =
    let new = branch l (free_number l rows) in
    or_from _ _
    (false_from_ne_true _ (λ t.
    let one : is_pending b rows ≡ false = sym (any_branch b rows) ∙ any_alike b new (branches rows) t ∙ any_branch new rows ∙ free_is_free l rows in cc))
    (opened_apart b rows ls h)

-- branches on other links
link_apart : (l : LinkNo) (n : ℕ) (rows : List RowState) (ls : List LinkNo) → list_any (λ k. k.0 == l.0) ls ≡ false → list_any (λ c. is_branch (branch l n) c) (opened rows ls) ≡ false
link_apart l n rows [] h = refl
link_apart l n rows (k ∷ ks) h =
    let e : (k.0 == l.0) ≡ false = left_false _ _ h in
    or_from _ _ (rw e refl) (link_apart l n rows ks (right_false _ _ h))

opened_distinct : (rows : List RowState) (to : List LinkNo) → differ to ≡ true → are_distinct (opened rows to) ≡ true
opened_distinct rows [] h = refl
opened_distinct rows (l ∷ ls) h =
    and_from _ _ (not_from_false _ (link_apart l (free_number l rows) rows ls (not-true _ (and_left _ _ h)))) (opened_distinct rows ls (and_right _ _ h))

-- a request that goes somewhere has a branch
opened_some : (rows : List RowState) (to : List LinkNo) → 0 < length to → (length (opened rows to) == 0) ≡ false
opened_some rows [] h = absurd (omega arith)
opened_some rows (l ∷ ls) h = false_from_ne_true _ (λ t. let e : suc (length (opened rows ls)) ≡ 0 = eqb-true _ 0 t in absurd (omega arith))

-- an asker is another one than those of the rows before
asker_apart : (r : RowState) (from : Asker) → is_asked_by from r ≡ false → (o : Option Asker) → r.asker ≡ o → (new : RowState) → new.asker ≡ Some from →
    option_map_or (λ a. is_asked_by a new) o false ≡ false
asker_apart r from h None e new f = refl
asker_apart r from h (Some a) e new f =
    rw f (false_from_ne_true (from.link.0 == a.link.0 && from.number == a.number) (λ t.
    let l : from.link.0 ≡ a.link.0 = eqb-true from.link.0 a.link.0 (and_left (from.link.0 == a.link.0) (from.number == a.number) t) in
    let n : from.number ≡ a.number = eqb-true from.number a.number (and_right (from.link.0 == a.link.0) (from.number == a.number) t) in
    let both : (a.link.0 == from.link.0 && a.number == from.number) ≡ true = and_from _ _ (eq-eqb a.link.0 from.link.0 (sym l)) (eq-eqb a.number from.number (sym n)) in
    let here : is_asked_by from r ≡ true = rw e both in cc))

asked_apart : (o : Option Asker) (rows : List RowState) (new : RowState) → option_map_or (λ a. asked a rows) o false ≡ false → option_map_or (λ a. is_asked_by a new) o false ≡ false →
    option_map_or (λ a. asked a (rows ++ new ∷ [])) o false ≡ false
asked_apart None rows new h k = refl
asked_apart (Some a) rows new h k = list_any-append (λ r. is_asked_by a r) rows (new ∷ []) ∙ or_from _ _ h (or_from _ _ k refl)

asker_joins : (new : RowState) (rows : List RowState) (from : Asker) → new.asker ≡ Some from → asked from rows ≡ false → askers_differ rows ≡ true → askers_differ (rows ++ new ∷ []) ≡ true
asker_joins new [] from e h k = rw e refl
asker_joins new (r ∷ rs) from e h k =
    and_from _ _
    (not_from_false _ (asked_apart r.asker rs new (not-true _ (and_left _ _ k)) (asker_apart r from (left_false _ _ h) r.asker refl new e)))
    (asker_joins new rs from e (right_false _ _ h) (and_right _ _ k))

pub begun_sound : (rows : List RowState) (from : Asker) (to : List LinkNo) → 0 < length to → differ to ≡ true → asked from rows ≡ false → IsSound rows → IsSound (begun rows from to)
begun_sound rows from to some apart fresh s =
    let new : RowState = record { asker = Some from; branches = opened rows to } in
    let all : branches (begun rows from to) ≡ branches rows ++ opened rows to = flat_map-append (λ (r : RowState). r.branches) rows (new ∷ []) ∙ ap (λ z. branches rows ++ z) (append-nil (opened rows to)) in
    record {
      pending = list_all-append (λ (r : RowState). not (is_done r)) rows (new ∷ []) ∙ and_from _ _ s.pending (and_from _ _ (not_from_false _ (opened_some rows to some)) refl);
      distinct = ap are_distinct all ∙ distinct_joined (branches rows) (opened rows to) s.distinct (opened_distinct rows to apart) (λ b h. opened_apart b rows to (sym (any_branch b rows) ∙ h));
      askers = asker_joins new rows from refl fresh s.askers;
    }

-- a link is its number
pub free_of_number : (l k : LinkNo) (rows : List RowState) → l.0 ≡ k.0 → free_number l rows ≡ free_number k rows
free_of_number l k rows e = ap (λ n. free_number (record { 0 = n }) rows) e

-- a branch on each link that it goes to
opened_has : (rows : List RowState) (to : List LinkNo) (link : LinkNo) → list_any (λ l. l.0 == link.0) to ≡ true →
    list_any (λ c. is_branch (branch link (free_number link rows)) c) (opened rows to) ≡ true
opened_has rows [] link h = h
opened_has rows (l ∷ ls) link h = by (l.0 == link.0) refl (opened_has rows ls link) h
  where
    by : (t : Bool) → (l.0 == link.0) ≡ t → (list_any (λ k. k.0 == link.0) ls ≡ true → list_any (λ c. is_branch (branch link (free_number link rows)) c) (opened rows ls) ≡ true)
        → (t || list_any (λ k. k.0 == link.0) ls) ≡ true → list_any (λ c. is_branch (branch link (free_number link rows)) c) (opened rows (l ∷ ls)) ≡ true
    by true e ih q = or_left _ _ (and_from _ _ e (eq-eqb (free_number l rows) (free_number link rows) (free_of_number l link rows (eqb-true _ _ e))))
    by false e ih q = or_right _ _ (ih q)

pub begun_taken : (rows : List RowState) (from : Asker) (to : List LinkNo) (link : LinkNo) → list_any (λ l. l.0 == link.0) to ≡ true →
    is_pending (branch link (free_number link rows)) (begun rows from to) ≡ true
begun_taken rows from to link h =
    let new : RowState = record { asker = Some from; branches = opened rows to } in
    let b = branch link (free_number link rows) in
    list_any-append (λ (r : RowState). has b r) rows (new ∷ []) ∙ or_right _ _ (or_left _ _ (opened_has rows to link h))

-- ---- a branch ends

-- a row that goes has no branches
done_empty : (bs : List Branch) → (length bs == 0) ≡ true → bs ≡ []
done_empty [] h = refl
done_empty (b ∷ bs) h = let e : suc (length bs) ≡ 0 = eqb-true _ 0 h in absurd (omega arith)

-- the branches that are left are those but for the one that ended
pub finished_branches : (rows : List RowState) (b : Branch) → branches (finished rows b) ≡ filter (λ c. not (is_branch b c)) (branches rows)
finished_branches [] b = refl
finished_branches (r ∷ rows) b =
    by (is_done (without b r)) refl (finished_branches rows b)
    ∙ sym (filter-append (λ c. not (is_branch b c)) r.branches (branches rows))
  where
    by : (t : Bool) → is_done (without b r) ≡ t → branches (finished rows b) ≡ filter (λ c. not (is_branch b c)) (branches rows) →
        branches (cond (not t) (without b r ∷ finished rows b) (finished rows b)) ≡ (without b r).branches ++ filter (λ c. not (is_branch b c)) (branches rows)
    by true e ih = ih ∙ ap (λ z. z ++ filter (λ c. not (is_branch b c)) (branches rows)) (sym (done_empty (without b r).branches e))
    by false e ih = ap (λ z. (without b r).branches ++ z) ih

-- who asked none of the rows asks none of those that are left
pub asked_left : (a : Asker) (rows : List RowState) (b : Branch) → asked a rows ≡ false → asked a (finished rows b) ≡ false
asked_left a [] b h = refl
asked_left a (r ∷ rows) b h = by (is_done (without b r)) (asked_left a rows b (right_false _ _ h))
  where
    by : (t : Bool) → asked a (finished rows b) ≡ false → asked a (cond (not t) (without b r ∷ finished rows b) (finished rows b)) ≡ false
    by true ih = ih
    by false ih = or_from _ _ (left_false _ _ h) ih

pub askers_left : (rows : List RowState) (b : Branch) → askers_differ rows ≡ true → askers_differ (finished rows b) ≡ true
askers_left [] b h = refl
askers_left (r ∷ rows) b h = by (is_done (without b r)) (askers_left rows b (and_right _ _ h))
  where
    none : (o : Option Asker) → option_map_or (λ a. asked a rows) o false ≡ false → option_map_or (λ a. asked a (finished rows b)) o false ≡ false
    none None k = refl
    none (Some a) k = asked_left a rows b k

    by : (t : Bool) → askers_differ (finished rows b) ≡ true → askers_differ (cond (not t) (without b r ∷ finished rows b) (finished rows b)) ≡ true
    by true ih = ih
    by false ih = and_from _ _ (not_from_false _ (none r.asker (not-true _ (and_left _ _ h)))) ih

pub finished_sound : (rows : List RowState) (b : Branch) → IsSound rows → IsSound (finished rows b)
finished_sound rows b s = record {
  pending = all_of_filter (λ (r : RowState). not (is_done r)) (map (λ r. without b r) rows);
  distinct = ap are_distinct (finished_branches rows b) ∙ distinct_filtered (λ c. not (is_branch b c)) (branches rows) s.distinct;
  askers = askers_left rows b s.askers;
}

pub all_finished_sound : (rows : List RowState) (bs : List Branch) → IsSound rows → IsSound (all_finished rows bs)
all_finished_sound rows [] s = s
all_finished_sound rows (b ∷ bs) s = all_finished_sound (finished rows b) bs (finished_sound rows b s)

-- ---- a link goes down

pub orphaned_branches : (link : LinkNo) (r : RowState) → (orphaned link r).branches ≡ r.branches
orphaned_branches link r = by (is_of link r)
  where
    by : (t : Bool) → (cond t (record { asker = None; branches = r.branches }) r).branches ≡ r.branches
    by true = refl
    by false = refl

pub all_orphaned_branches : (link : LinkNo) (rows : List RowState) → branches (all_orphaned link rows) ≡ branches rows
all_orphaned_branches link [] = refl
all_orphaned_branches link (r ∷ rows) =
    ap (λ z. z ++ branches (all_orphaned link rows)) (orphaned_branches link r) ∙ ap (λ z. r.branches ++ z) (all_orphaned_branches link rows)

all_orphaned_pending : (link : LinkNo) (rows : List RowState) → list_all (λ r. not (is_done r)) rows ≡ true → list_all (λ r. not (is_done r)) (all_orphaned link rows) ≡ true
all_orphaned_pending link [] h = refl
all_orphaned_pending link (r ∷ rows) h =
    and_from _ _ (ap (λ bs. not (length bs == 0)) (orphaned_branches link r) ∙ and_left _ _ h) (all_orphaned_pending link rows (and_right _ _ h))

asked_orphaned : (link : LinkNo) (a : Asker) (rows : List RowState) → asked a rows ≡ false → asked a (all_orphaned link rows) ≡ false
asked_orphaned link a [] h = refl
asked_orphaned link a (r ∷ rows) h = or_from _ _ (by (is_of link r)) (asked_orphaned link a rows (right_false _ _ h))
  where
    by : (t : Bool) → is_asked_by a (cond t (record { asker = None; branches = r.branches }) r) ≡ false
    by true = refl
    by false = left_false _ _ h

pub askers_orphaned : (link : LinkNo) (rows : List RowState) → askers_differ rows ≡ true → askers_differ (all_orphaned link rows) ≡ true
askers_orphaned link [] h = refl
askers_orphaned link (r ∷ rows) h = and_from _ _ (not_from_false _ (by (is_of link r))) (askers_orphaned link rows (and_right _ _ h))
  where
    none : (o : Option Asker) → option_map_or (λ a. asked a rows) o false ≡ false → option_map_or (λ a. asked a (all_orphaned link rows)) o false ≡ false
    none None k = refl
    none (Some a) k = asked_orphaned link a rows k

    by : (t : Bool) → option_map_or (λ a. asked a (all_orphaned link rows)) (cond t (record { asker = None; branches = r.branches }) r).asker false ≡ false
    by true = refl
    by false = none r.asker (not-true _ (and_left _ _ h))

pub all_orphaned_sound : (link : LinkNo) (rows : List RowState) → IsSound rows → IsSound (all_orphaned link rows)
all_orphaned_sound link rows s = record {
  pending = all_orphaned_pending link rows s.pending;
  distinct = ap are_distinct (all_orphaned_branches link rows) ∙ s.distinct;
  askers = askers_orphaned link rows s.askers;
}

pub dropped_sound : (link : LinkNo) (rows : List RowState) → IsSound rows → IsSound (dropped link rows)
dropped_sound link rows s = all_finished_sound (all_orphaned link rows) (branches_on link rows) (all_orphaned_sound link rows s)
