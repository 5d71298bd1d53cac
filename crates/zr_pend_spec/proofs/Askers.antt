-- Who asked a row, as branches end: it asks a row until it is sent the final (`kept_or_sent`), then none (`final_gone`), so nobody is sent two (`finals_apart`).
-- So each gathering stays one of a row, as it is taken with the final of its asker (`ended_of_rows`, `dropped_of_rows`).
use Rattle.std.proofs.Common.{◌≡◌, ◌≤◌, ◌==◌, ◌&&◌, ◌||◌, not, Bool, true, false, cond, List, [], ◌∷◌, ◌++◌, map, length, length-append, Option, Some, None, Result, Ok, Err, OnOk, OnErr, ◌⊎◌, inl, inr, refl, sym, ap, ◌∙◌, subst, arith}
use Rattle.std.specs.List.{find, fold, list_any, list_all}
use Rattle.std.specs.Option.{option_and_then, option_map_or, option_to_list}
use Rattle.std.proofs.lemmas.Bool.{false_from_ne_true, not-true, not_from_false, and_from, or_from, false≢true}
use Rattle.std.proofs.lemmas.Grind.{fold-append}
use Rattle.std.proofs.lemmas.List.Folds.{list_all-append}
use Rattle.zr_lists.proofs.Filters.{find_filter_kept}
use Rattle.zr_lists.proofs.Parts.{and_left, and_right}
use Rattle.zr_id.specs.declared.link.LinkNo.{LinkNo}
use Rattle.zr_msg.specs.declared.content.Parts.{Parts}
use Rattle.zr_pend_spec.specs.declared.branch.Asker.{Asker}
use Rattle.zr_pend_spec.specs.declared.branch.Branch.{Branch}
use Rattle.zr_pend_spec.specs.Held.{GatheringState, after_final_to, are_apart, begun_if, ending, gathering_begun, gatherings_at, gatherings_left, gatherings_off, gatherings_without, gathers_for, held_for, is_asker, is_for, regathered}
use Rattle.zr_pend_spec.specs.Row.{RowState, has, is_asked_by, is_done, is_last, without}
use Rattle.zr_pend_spec.specs.Pending.{IsSound, all_finished, all_orphaned, are_distinct, asked, askers_differ, begun, branches, branches_on, dropped, final_to, finals, finals_of_drop, finished, is_pending}
use Rattle.zr_pend_spec.specs.Readings.{new_row}
use Rattle.zr_pend_spec.proofs.Branches.{distinct_apart, distinct_behind}
use Rattle.zr_pend_spec.proofs.Sound.{all_orphaned_sound, any_branch, asked_left, finished_sound}
use Rattle.zr_pend_spec.proofs.OneRow.{none_last, row_stays}
use Rattle.zr_pend_spec.proofs.OneEnd.{done_is_last}
use Rattle.zr_pend_spec.proofs.Readings.{alone, asker_at, asks_itself, begun_kept, one_row}
use Rattle.zr_pend_spec.proofs.ReadingsOfDrop.{is_who, orphaned_asker, who_is_left}
use Rattle.zr_pend_spec.proofs.Gathered.{itself, same_asker}

or_left : (a b : Bool) → a ≡ true → (a || b) ≡ true
or_left true b h = refl
or_left false b h = absurd (false≢true h)

or_right : (a b : Bool) → b ≡ true → (a || b) ≡ true
or_right true b h = refl
or_right false b h = h

-- ---- one branch ends

-- a row that has ended now had this branch as its last
last_of_done : (b : Branch) (r : RowState) → not (is_done r) ≡ true → is_done (without b r) ≡ true → is_last b r ≡ true
last_of_done b r pending done = by (has b r) refl
  where
    by : (t : Bool) → has b r ≡ t → is_last b r ≡ true
    by true h = sym (done_is_last b r h) ∙ done
    by false h = absurd (false≢true (sym (not-true _ pending) ∙ ap is_done (sym (row_stays b r h)) ∙ done))

no_other_last : (b : Branch) (r : RowState) (rows : List RowState) (c : Asker) → are_distinct (r.branches ++ branches rows) ≡ true → is_last b r ≡ true → final_to rows b ≡ Some c → ⊥
no_other_last b r rows c d h f =
    let apart : is_pending b rows ≡ false = sym (any_branch b rows) ∙ distinct_apart r.branches (branches rows) b d (and_left _ _ h) in
    let none : None ≡ Some c = sym (ap (λ o. option_and_then (λ (x : RowState). x.asker) o) (none_last b rows apart)) ∙ f in
    absurd (cc)

kept_or_sent : (a : Asker) (rows : List RowState) (b : Branch) → list_all (λ r. not (is_done r)) rows ≡ true → are_distinct (branches rows) ≡ true → asked a rows ≡ true →
    (asked a (finished rows b) ≡ true) ⊎ (final_to rows b ≡ Some a)
kept_or_sent a [] b p d h = absurd (false≢true h)
kept_or_sent a (r ∷ rows) b p d h =
    by (is_asked_by a r) refl (is_done (without b r)) refl (is_last b r) refl (λ k. kept_or_sent a rows b (and_right _ _ p) (distinct_behind r.branches (branches rows) d) k)
  where
    Left : Bool → Bool → Type 0
    Left done last = (asked a (cond (not done) (without b r ∷ finished rows b) (finished rows b)) ≡ true) ⊎ (option_and_then (λ (x : RowState). x.asker) (cond last (Some r) (find (λ x. is_last b x) rows)) ≡ Some a)

    further : (done last : Bool) → is_last b r ≡ last → (asked a (finished rows b) ≡ true) ⊎ (final_to rows b ≡ Some a) → Left done last
    further true last l (inl k) = inl k
    further false last l (inl k) = inl (or_right _ _ k)
    further done true l (inr f) = absurd (no_other_last b r rows a d l f)
    further done false l (inr f) = inr f

    by : (mine : Bool) → is_asked_by a r ≡ mine → (done : Bool) → is_done (without b r) ≡ done → (last : Bool) → is_last b r ≡ last →
        (asked a rows ≡ true → (asked a (finished rows b) ≡ true) ⊎ (final_to rows b ≡ Some a)) → Left done last
    by true m false e last l ih = inl (or_left _ _ m)
    by true m true e true l ih = inr (asker_at a r.asker m)
    by true m true e false l ih = absurd (false≢true (sym l ∙ last_of_done b r (and_left _ _ p) e))
    by false m done e last l ih = further done last l (ih (ap (λ t. t || asked a rows) (sym m) ∙ h))

-- who gets the final asked a row
final_asked : (a : Asker) (rows : List RowState) (b : Branch) → final_to rows b ≡ Some a → asked a rows ≡ true
final_asked a [] b f = absurd (cc)
final_asked a (r ∷ rows) b f = by (is_last b r) f (final_asked a rows b)
  where
    by : (t : Bool) → option_and_then (λ (x : RowState). x.asker) (cond t (Some r) (find (λ x. is_last b x) rows)) ≡ Some a → (final_to rows b ≡ Some a → asked a rows ≡ true) → (is_asked_by a r || asked a rows) ≡ true
    by true k ih = or_left _ _ (asks_itself a r k)
    by false k ih = or_right _ _ (ih k)

-- and then asks none
final_gone : (a : Asker) (rows : List RowState) (b : Branch) → askers_differ rows ≡ true → final_to rows b ≡ Some a → asked a (finished rows b) ≡ false
final_gone a [] b s f = refl
final_gone a (r ∷ rows) b s f = by (is_last b r) refl f (final_gone a rows b (and_right _ _ s))
  where
    other : final_to rows b ≡ Some a → is_asked_by a r ≡ false
    other k = false_from_ne_true _ (λ t. false≢true (sym (alone r rows a s t) ∙ final_asked a rows b k))

    left : (done : Bool) → is_asked_by a r ≡ false → asked a (finished rows b) ≡ false → asked a (cond (not done) (without b r ∷ finished rows b) (finished rows b)) ≡ false
    left true m k = k
    left false m k = or_from _ _ m k

    by : (t : Bool) → is_last b r ≡ t → option_and_then (λ (x : RowState). x.asker) (cond t (Some r) (find (λ x. is_last b x) rows)) ≡ Some a → (final_to rows b ≡ Some a → asked a (finished rows b) ≡ false) →
        asked a (finished (r ∷ rows) b) ≡ false
    by true l k ih =
        let done : is_done (without b r) ≡ true = done_is_last b r (and_left _ _ l) ∙ l in
        rw done (asked_left a rows b (one_row a r.asker rows k (not-true _ (and_left _ _ s))))
    by false l k ih = left (is_done (without b r)) (other k) (ih k)

asked_before : (a : Asker) (rows : List RowState) (b : Branch) → asked a (finished rows b) ≡ true → asked a rows ≡ true
asked_before a rows b h = by (asked a rows) refl
  where
    by : (t : Bool) → asked a rows ≡ t → asked a rows ≡ true
    by true e = e
    by false e = absurd (false≢true (sym (asked_left a rows b e) ∙ h))

-- ---- branches end one after another

finals_asked : (a : Asker) (rows : List RowState) (bs : List Branch) → list_any (λ c. is_asker c a) (finals rows bs) ≡ true → asked a rows ≡ true
finals_asked a rows [] h = absurd (false≢true h)
finals_asked a rows (b ∷ bs) h = by (final_to rows b) refl h (λ k. asked_before a rows b (finals_asked a (finished rows b) bs k))
  where
    Later : Type 0
    Later = list_any (λ c. is_asker c a) (finals (finished rows b) bs) ≡ true → asked a rows ≡ true

    by : (o : Option Asker) → final_to rows b ≡ o → list_any (λ c. is_asker c a) (option_to_list o ++ finals (finished rows b) bs) ≡ true → Later → asked a rows ≡ true
    by None e k later = later k
    by (Some c) e k later = at (is_asker c a) refl
      where
        at : (t : Bool) → is_asker c a ≡ t → asked a rows ≡ true
        at true m = final_asked a rows b (e ∙ ap (λ x. Some x) (same_asker c a m))
        at false m = later (ap (λ t. t || list_any (λ x. is_asker x a) (finals (finished rows b) bs)) (sym m) ∙ k)

pub finals_apart : (rows : List RowState) (bs : List Branch) → IsSound rows → are_apart (finals rows bs) ≡ true
finals_apart rows [] s = refl
finals_apart rows (b ∷ bs) s = by (final_to rows b) refl (finals_apart (finished rows b) bs (finished_sound rows b s))
  where
    by : (o : Option Asker) → final_to rows b ≡ o → are_apart (finals (finished rows b) bs) ≡ true → are_apart (option_to_list o ++ finals (finished rows b) bs) ≡ true
    by None e ih = ih
    by (Some c) e ih =
        and_from _ _ (not_from_false _ (false_from_ne_true _ (λ t. false≢true (sym (final_gone c rows b s.askers e) ∙ finals_asked c (finished rows b) bs t)))) ih

pub finals_few : (rows : List RowState) (bs : List Branch) → length (finals rows bs) ≤ length bs
finals_few rows [] = omega arith
finals_few rows (b ∷ bs) = omega (arith, length-append (option_to_list (final_to rows b)) (finals (finished rows b) bs), finals_few (finished rows b) bs, one (final_to rows b))
  where
    one : (o : Option Asker) → length (option_to_list o) ≤ 1
    one None = omega arith
    one (Some c) = omega arith

-- ---- gatherings stay of rows

-- nothing is gathered for who asked no row
pub none_gathered : (a : Asker) (rows : List RowState) (held : List GatheringState) → list_all (λ g. asked g.asker rows) held ≡ true → asked a rows ≡ false → gathers_for held a ≡ false
none_gathered a rows [] h n = refl
none_gathered a rows (g ∷ held) h n =
    or_from _ _
    (false_from_ne_true _ (λ t. false≢true (sym n ∙ subst (λ c. asked c rows ≡ true) (same_asker g.asker a t) (and_left _ _ h))))
    (none_gathered a rows held (and_right _ _ h) n)

asked_still : (a : Asker) (rows : List RowState) (from : Asker) (to : List LinkNo) → asked a rows ≡ true → asked a (begun rows from to) ≡ true
asked_still a rows from to h = begun_kept rows from to a ∙ or_left (asked a rows) (is_asked_by a (new_row rows from to) || false) h

asked_now : (rows : List RowState) (from : Asker) (to : List LinkNo) → asked from (begun rows from to) ≡ true
asked_now rows from to =
    begun_kept rows from to from
    ∙ or_right (asked from rows) (is_asked_by from (new_row rows from to) || false) (or_left (is_asked_by from (new_row rows from to)) false (itself from))

all_still : (rows : List RowState) (from : Asker) (to : List LinkNo) (gs : List GatheringState) → list_all (λ g. asked g.asker rows) gs ≡ true →
    list_all (λ g. asked g.asker (begun rows from to)) gs ≡ true
all_still rows from to [] k = refl
all_still rows from to (g ∷ gs) k = and_from _ _ (asked_still g.asker rows from to (and_left _ _ k)) (all_still rows from to gs (and_right _ _ k))

pub begun_of_rows : (rows : List RowState) (from : Asker) (to : List LinkNo) (latest : Bool) (held : List GatheringState) → list_all (λ g. asked g.asker rows) held ≡ true →
    list_all (λ g. asked g.asker (begun rows from to)) (begun_if latest held from) ≡ true
begun_of_rows rows from to true held h =
    list_all-append (λ g. asked g.asker (begun rows from to)) held (gathering_begun [] from)
    ∙ and_from _ _ (all_still rows from to held h) (and_from _ _ (asked_now rows from to) refl)
begun_of_rows rows from to false held h = all_still rows from to held h

pub ended_of_rows : (rows : List RowState) (b : Branch) (held : List GatheringState) → IsSound rows → list_all (λ g. asked g.asker rows) held ≡ true →
    list_all (λ g. asked g.asker (finished rows b)) (after_final_to held (final_to rows b)) ≡ true
ended_of_rows rows b held s h = by (final_to rows b) refl
  where
    stay : (o : Option Asker) → final_to rows b ≡ o → (g : GatheringState) → asked g.asker rows ≡ true → (o ≡ Some g.asker → ⊥) → asked g.asker (finished rows b) ≡ true
    stay o e g k other = elim (kept_or_sent g.asker rows b s.pending s.distinct k) [
      | inl kept ↦ kept
      | inr sent ↦ absurd (other (sym e ∙ sent))
    ]

    all : final_to rows b ≡ None → (gs : List GatheringState) → list_all (λ g. asked g.asker rows) gs ≡ true → list_all (λ g. asked g.asker (finished rows b)) gs ≡ true
    all e [] k = refl
    all e (g ∷ gs) k = and_from _ _ (stay None e g (and_left _ _ k) (λ no. absurd (cc))) (all e gs (and_right _ _ k))

    others : (c : Asker) → final_to rows b ≡ Some c → (gs : List GatheringState) → list_all (λ g. asked g.asker rows) gs ≡ true → list_all (λ g. asked g.asker (finished rows b)) (gatherings_without gs c) ≡ true
    others c e [] k = refl
    others c e (g ∷ gs) k = at (is_for c g) refl (others c e gs (and_right _ _ k))
      where
        Kept : List GatheringState → Type 0
        Kept xs = list_all (λ x. asked x.asker (finished rows b)) xs ≡ true

        at : (t : Bool) → is_for c g ≡ t → Kept (gatherings_without gs c) → Kept (cond (not t) (g ∷ gatherings_without gs c) (gatherings_without gs c))
        at true m ih = ih
        at false m ih =
            and_from _ _
            (stay (Some c) e g (and_left _ _ k) (λ one. let same : c ≡ g.asker = cc in false≢true (sym m ∙ ap (λ x. is_asker g.asker x) same ∙ itself g.asker)))
            ih

    by : (o : Option Asker) → final_to rows b ≡ o → list_all (λ g. asked g.asker (finished rows b)) (after_final_to held o) ≡ true
    by None e = all e held h
    by (Some c) e = others c e held h

all_ended_of_rows : (rows : List RowState) (bs : List Branch) (held : List GatheringState) → IsSound rows → list_all (λ g. asked g.asker rows) held ≡ true →
    list_all (λ g. asked g.asker (all_finished rows bs)) (fold gatherings_without held (finals rows bs)) ≡ true
all_ended_of_rows rows [] held s h = h
all_ended_of_rows rows (b ∷ bs) held s h =
    let first : fold gatherings_without held (option_to_list (final_to rows b)) ≡ after_final_to held (final_to rows b) = one (final_to rows b) in
    let split : fold gatherings_without held (finals rows (b ∷ bs)) ≡ fold gatherings_without (after_final_to held (final_to rows b)) (finals (finished rows b) bs) =
    fold-append gatherings_without held (option_to_list (final_to rows b)) (finals (finished rows b) bs) ∙ ap (λ gs. fold gatherings_without gs (finals (finished rows b) bs)) first in
    ap (λ gs. list_all (λ g. asked g.asker (all_finished (finished rows b) bs)) gs) split
    ∙ all_ended_of_rows (finished rows b) bs (after_final_to held (final_to rows b)) (finished_sound rows b s) (ended_of_rows rows b held s h)
  where
    one : (o : Option Asker) → fold gatherings_without held (option_to_list o) ≡ after_final_to held o
    one None = refl
    one (Some c) = refl

-- ---- a link goes down

orphaned_asked : (link : LinkNo) (a : Asker) (rows : List RowState) → asked a (all_orphaned link rows) ≡ (not (a.link.0 == link.0) && asked a rows)
orphaned_asked link a [] = none (a.link.0 == link.0)
  where
    none : (t : Bool) → false ≡ (not t && false)
    none true = refl
    none false = refl
orphaned_asked link a (r ∷ rows) =
    ap (λ t. t || asked a (all_orphaned link rows)) (ap (λ o. is_who a o) (orphaned_asker link r) ∙ who_is_left link a r.asker)
    ∙ ap (λ t. (not (a.link.0 == link.0) && is_asked_by a r) || t) (orphaned_asked link a rows)
    ∙ both (a.link.0 == link.0) (is_asked_by a r) (asked a rows)
  where
    both : (t u v : Bool) → ((not t && u) || (not t && v)) ≡ (not t && (u || v))
    both true u v = refl
    both false u v = refl

orphaned_of_rows : (link : LinkNo) (rows : List RowState) (held : List GatheringState) → list_all (λ g. asked g.asker rows) held ≡ true →
    list_all (λ g. asked g.asker (all_orphaned link rows)) (gatherings_off held link) ≡ true
orphaned_of_rows link rows [] h = refl
orphaned_of_rows link rows (g ∷ held) h = by (g.asker.link.0 == link.0) refl (orphaned_of_rows link rows held (and_right _ _ h))
  where
    by : (t : Bool) → (g.asker.link.0 == link.0) ≡ t → list_all (λ x. asked x.asker (all_orphaned link rows)) (gatherings_off held link) ≡ true →
        list_all (λ x. asked x.asker (all_orphaned link rows)) (cond (not t) (g ∷ gatherings_off held link) (gatherings_off held link)) ≡ true
    by true e ih = ih
    by false e ih = and_from _ _ (orphaned_asked link g.asker rows ∙ and_from _ _ (not_from_false _ e) (and_left _ _ h)) ih

pub dropped_of_rows : (link : LinkNo) (rows : List RowState) (held : List GatheringState) → IsSound rows → list_all (λ g. asked g.asker rows) held ≡ true →
    list_all (λ g. asked g.asker (dropped link rows)) (gatherings_left held link (finals_of_drop link rows)) ≡ true
dropped_of_rows link rows held s h =
    all_ended_of_rows (all_orphaned link rows) (branches_on link rows) (gatherings_off held link) (all_orphaned_sound link rows s) (orphaned_of_rows link rows held h)

-- what is held for who asked over another link stays
held_off : (link : LinkNo) (a : Asker) (held : List GatheringState) → (a.link.0 == link.0) ≡ false → held_for (gatherings_off held link) a ≡ held_for held a
held_off link a held f =
    ap (λ o. option_map_or (λ g. g.held) o [])
    (find_filter_kept (λ g. is_for a g) (λ g. not (g.asker.link.0 == link.0)) held (λ g t. not_from_false _ (ap (λ (c : Asker). c.link.0 == link.0) (same_asker g.asker a t) ∙ f)))

-- who is sent a final asked over another link
pub dropped_endings : (link : LinkNo) (rows : List RowState) (held : List GatheringState) →
    map (λ a. ending (gatherings_off held link) a) (finals_of_drop link rows) ≡ map (λ a. ending held a) (finals_of_drop link rows)
dropped_endings link rows held = each (finals_of_drop link rows) (λ a t. off a (finals_asked a (all_orphaned link rows) (branches_on link rows) t))
  where
    off : (a : Asker) → asked a (all_orphaned link rows) ≡ true → (a.link.0 == link.0) ≡ false
    off a t = not-true _ (and_left _ _ (sym (orphaned_asked link a rows) ∙ t))

    each : (askers : List Asker) → ((a : Asker) → list_any (λ c. is_asker c a) askers ≡ true → (a.link.0 == link.0) ≡ false) →
        map (λ a. ending (gatherings_off held link) a) askers ≡ map (λ a. ending held a) askers
    each [] k = refl
    each (c ∷ askers) k =
        let same : held_for (gatherings_off held link) c ≡ held_for held c = held_off link c held (k c (or_left _ _ (itself c))) in
        rw (same, each askers (λ a t. k a (or_right _ _ t))) refl

-- ---- a reply is held

still_of_rows : (rows : List RowState) (held : List GatheringState) (a : Asker) (f : List Parts → List Parts) →
    list_all (λ g. asked g.asker rows) (gatherings_at held a f) ≡ list_all (λ g. asked g.asker rows) held
still_of_rows rows [] a f = refl
still_of_rows rows (g ∷ held) a f =
    ap (λ t. t && list_all (λ x. asked x.asker rows) (gatherings_at held a f)) (by (is_for a g)) ∙ ap (λ t. asked g.asker rows && t) (still_of_rows rows held a f)
  where
    by : (t : Bool) → asked (cond t (regathered f g) g).asker rows ≡ asked g.asker rows
    by true = refl
    by false = refl

pub held_of_rows : {E : Type 0} (rows : List RowState) (held news : List GatheringState) (r : Result Bool E) (o : Option Asker) (f : List Parts → List Parts) →
    OnOk r (news ≡ option_map_or (λ a. gatherings_at held a f) o held) → OnErr r (news ≡ held) → list_all (λ g. asked g.asker rows) held ≡ true → list_all (λ g. asked g.asker rows) news ≡ true
held_of_rows rows held news (Ok t) None f ok err h = rw ok h
held_of_rows rows held news (Ok t) (Some a) f ok err h = rw ok (still_of_rows rows held a f ∙ h)
held_of_rows rows held news (Err e) o f ok err h = rw err h
