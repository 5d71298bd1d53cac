-- A link goes down: on each other link the numbers leave whose askers were on it, and the requests end whose last branches were on it.
use Rattle.std.proofs.Common.{◌≡◌, ℕ, ◌==◌, ◌&&◌, ◌||◌, Bool, true, false, cond, List, [], ◌∷◌, ◌++◌, map, filter, append-nil, Option, Some, None, refl, sym, ap, subst, ◌∙◌}
use Rattle.std.specs.List.{AllByRecursion, flat_map}
use Rattle.std.specs.Option.{option_map, option_map_or, option_and_then}
use Rattle.std.proofs.lemmas.Bool.{eqb-true, eq-eqb, false_from_ne_true, false≢true, or_left, or_right}
use Rattle.std.proofs.lemmas.Grind.{flat_map-append}
use Rattle.std.proofs.lemmas.Map.Views.{any-filter_same}
use Rattle.std.proofs.lemmas.Option.{none-some}
use Rattle.zr_id.specs.declared.link.LinkNo.{LinkNo}
use Rattle.zr_msg.specs.Extras.{no_extras}
use Rattle.zr_msg.specs.declared.event.Event.TheVariants.{Down}
use Rattle.zr_msg.specs.declared.peer.LinkPeer.{LinkPeer}
use Rattle.zr_pend_spec.specs.declared.branch.Asker.{Asker}
use Rattle.zr_pend_spec.specs.Row.{RowState, is_asked_by}
use Rattle.zr_pend_spec.specs.Pending.{IsSound, asked, is_pending, numbers_on, branch, branches_on, all_orphaned, finals_of_drop}
use Rattle.zr_pend_spec.specs.Readings.{back, but_link}
use Rattle.zr_pend_spec.proofs.Free.{is_in, pending_is_in}
use Rattle.zr_pend_spec.proofs.Sound.{all_orphaned_sound}
use Rattle.zr_pend_spec.proofs.ReadingsOfDrop.{dropped_back, is_who}
use Rattle.zr_node_spec.specs.Tables.{link_at}
use Rattle.zr_node_spec.specs.Queries.{ending_for}
use Rattle.zr_lists.proofs.Each.{All-append}
use Rattle.zr_node_spec.specs.State.{NodeState}
use Rattle.zr_node_spec.specs.Table.{after, without_link}
use Rattle.zr_law_queries.specs.Link.{put}
use Rattle.zr_law_numbers.specs.Waiting.{Place, asks_in, answers_in}
use Rattle.zr_law_numbers.specs.Deeds.{Half, Deed, Leaves, with_deed, asked_by_deed, answered_by_deed, place_in, half_of, IsMeant, IsDone}
use Rattle.zr_law_numbers.proofs.RowsBegun.{not_back}
use Rattle.zr_law_numbers.proofs.LinksAfter.{at_without_link}
use Rattle.zr_law_numbers.proofs.DeedLists.{Leads, leads-append, ends_for, all_ends_lead, half_by, asks_on, same_half}
use Rattle.zr_law_numbers.proofs.SentOfQueries.{down_tells}
use Rattle.zr_law_numbers.proofs.DeedsDone.{back_in, asks_are, answers_are, released, done_alone, final_is_deed, end_meant}

-- ---- numbers leave

abbrev left_from : Half → List ℕ → Half
left_from h ns = record { keeps = h.keeps; back = λ n. cond (is_in n ns) (Some None) (h.back n) }

leaves_lead : (h : Half) (ns : List ℕ) → ((n : ℕ) → is_in n ns ≡ true → (by : Option Place) × (h.back n ≡ Some by)) → Leads h (map (λ n. Leaves n) ns) (left_from h ns)
leaves_lead h [] pending = record { owns = refl; may = tt; leaves = record { keeps = λ n. refl; back = λ n. refl } }
leaves_lead h (m ∷ ms) pending =
    let rest : Leads (with_deed h (Leaves m)) (map (λ n. Leaves n) ms) (left_from (with_deed h (Leaves m)) ms) = leaves_lead (with_deed h (Leaves m)) ms still in
    record {
      owns = rest.owns;
      may = (pending m (or_left _ _ (eq-eqb m m refl)), rest.may);
      leaves = record { keeps = rest.leaves.keeps; back = λ n. both n (m == n) (is_in n ms) ∙ rest.leaves.back n };
    }
  where
    still : (n : ℕ) → is_in n ms ≡ true → (by : Option Place) × (put h.back m (Some None) n ≡ Some by)
    still n e = at (m == n)
      where
        at : (t : Bool) → (by : Option Place) × (cond t (Some None) (h.back n) ≡ Some by)
        at true = (None, refl)
        at false = pending n (or_right _ _ e)

    both : (n : ℕ) (s t : Bool) → cond (s || t) (Some None) (h.back n) ≡ cond t (Some None) (cond s (Some None) (h.back n))
    both n true true = refl
    both n true false = refl
    both n false true = refl
    both n false false = refl

nothing_told : {X : Type 0} (tells : Deed → List X) → ((n : ℕ) → tells (Leaves n) ≡ []) → (ns : List ℕ) → flat_map tells (map (λ n. Leaves n) ns) ≡ []
nothing_told tells none [] = refl
nothing_told tells none (n ∷ ns) = ap (λ z. z ++ flat_map tells (map (λ m. Leaves m) ns)) (none n) ∙ nothing_told tells none ns

-- ---- requests end

ends_sent : (node : NodeState) (tag : ℕ) (to : LinkNo) (askers : List Asker) →
    (flat_map (λ m. asks_in tag m) (flat_map (λ a. ending_for node.held no_extras to.0 a) askers) ≡ flat_map asked_by_deed (flat_map (λ a. ends_for (released node tag) to a) askers))
    × (flat_map (λ m. answers_in tag m) (flat_map (λ a. ending_for node.held no_extras to.0 a) askers) ≡ flat_map answered_by_deed (flat_map (λ a. ends_for (released node tag) to a) askers))
ends_sent node tag to [] = (refl, refl)
ends_sent node tag to (a ∷ askers) =
    let one = final_is_deed node tag no_extras to a in
    let more = ends_sent node tag to askers in (
      flat_map-append (λ m. asks_in tag m) (ending_for node.held no_extras to.0 a) (flat_map (λ z. ending_for node.held no_extras to.0 z) askers)
          ∙ ap (λ z. z ++ flat_map (λ m. asks_in tag m) (flat_map (λ z. ending_for node.held no_extras to.0 z) askers)) one.0
          ∙ ap (λ z. flat_map asked_by_deed (ends_for (released node tag) to a) ++ z) more.0
          ∙ sym (flat_map-append asked_by_deed (ends_for (released node tag) to a) (flat_map (λ z. ends_for (released node tag) to z) askers)),
      flat_map-append (λ m. answers_in tag m) (ending_for node.held no_extras to.0 a) (flat_map (λ z. ending_for node.held no_extras to.0 z) askers)
          ∙ ap (λ z. z ++ flat_map (λ m. answers_in tag m) (flat_map (λ z. ending_for node.held no_extras to.0 z) askers)) one.1
          ∙ ap (λ z. flat_map answered_by_deed (ends_for (released node tag) to a) ++ z) more.1
          ∙ sym (flat_map-append answered_by_deed (ends_for (released node tag) to a) (flat_map (λ z. ends_for (released node tag) to z) askers)),
    )

-- ---- what the rows say of another link

-- who asked over another link is as before
asked_elsewhere : (link : LinkNo) (a : Asker) (rows : List RowState) → (a.link.0 == link.0) ≡ false → asked a (all_orphaned link rows) ≡ asked a rows
asked_elsewhere link a [] e = refl
asked_elsewhere link a (r ∷ rows) e = ap (λ t. t || asked a (all_orphaned link rows)) (one r.asker) ∙ ap (λ t. is_asked_by a r || t) (asked_elsewhere link a rows e)
  where
    other : (z : Asker) (t : Bool) → (z.link.0 == link.0) ≡ t → (u : Bool) → (z.link.0 == a.link.0) ≡ u →
        is_who a (cond {A = RowState} t (record { asker = None; branches = r.branches }) (record { asker = Some z; branches = r.branches })).asker ≡ (u && z.number == a.number)
    other z true f true g = absurd (false≢true (sym e ∙ eq-eqb a.link.0 link.0 (sym (eqb-true z.link.0 a.link.0 g) ∙ eqb-true z.link.0 link.0 f)))
    other z true f false g = refl
    other z false f u g = ap (λ t. t && z.number == a.number) g

    one : (o : Option Asker) → is_who a (cond {A = RowState} (option_map_or (λ z. z.link.0 == link.0) o false) (record { asker = None; branches = r.branches }) (record { asker = o; branches = r.branches })).asker ≡ is_who a o
    one None = refl
    one (Some z) = other z (z.link.0 == link.0) refl (z.link.0 == a.link.0) refl

-- who asked was on the link
abbrev is_gone : LinkNo → Option (Option Asker) → Bool
is_gone link None = false
is_gone link (Some None) = false
is_gone link (Some (Some a)) = a.link.0 == link.0

-- the numbers of another link whose askers were on this one
abbrev leavers : LinkNo → List RowState → LinkNo → List ℕ
leavers link rows to = filter (λ n. is_gone link (back rows (branch to n))) (numbers_on to rows)

leavers_are : (link : LinkNo) (rows : List RowState) (to : LinkNo) (n : ℕ) → is_in n (leavers link rows to) ≡ is_gone link (back rows (branch to n))
leavers_are link rows to n =
    any-filter_same (λ m. m == n) (λ m. is_gone link (back rows (branch to m))) (is_gone link (back rows (branch to n))) (λ m e. ap (λ k. is_gone link (back rows (branch to k))) (eqb-true m n e)) (numbers_on to rows)
    ∙ ap (λ t. is_gone link (back rows (branch to n)) && t) (sym (pending_is_in to n rows))
    ∙ by (is_pending (branch to n) rows) refl (is_gone link (back rows (branch to n))) refl
  where
    by : (t : Bool) → is_pending (branch to n) rows ≡ t → (u : Bool) → is_gone link (back rows (branch to n)) ≡ u → (u && t) ≡ u
    by true e true f = refl
    by true e false f = refl
    by false e true f = absurd (false≢true (ap (λ o. is_gone link o) (sym (not_back rows (branch to n) e)) ∙ f))
    by false e false f = refl

-- ---- the event

module _ (node : NodeState) (link : LinkNo) (tag : ℕ) (l : LinkPeer) (sound : IsSound node.pending) (stays : link_at (without_link node.links link.0) l.link.0 ≡ Some l) where
  other : (l.link.0 == link.0) ≡ false
  other = false_from_ne_true _ (λ t. absurd (none-some l (sym (ap (λ b. cond b None (link_at node.links l.link.0)) t) ∙ sym (at_without_link node.links link.0 l.link.0) ∙ stays)))

  -- on the other links numbers are pending for whom they were, but for those who were on the link
  places : (o : Option (Option Asker)) → option_map (λ q. option_and_then (λ a. place_in (after node (Down link)) a) q) (option_map (λ q. but_link link q) o)
      ≡ cond (is_gone link o) (Some None) (option_map (λ q. option_and_then (λ a. place_in node a) q) o)
  places None = refl
  places (Some None) = refl
  places (Some (Some a)) = by (a.link.0 == link.0) refl
    where
      by : (t : Bool) → (a.link.0 == link.0) ≡ t → option_map (λ q. option_and_then (λ z. place_in (after node (Down link)) z) q) (Some (cond t None (Some a))) ≡ cond t (Some None) (Some (place_in node a))
      by true e = refl
      by false e =
          ap (λ o. Some (option_map (λ (k : LinkPeer). record { name = k.peer.id; number = a.number }) o))
          (at_without_link node.links link.0 a.link.0 ∙ ap (λ b. cond b None (link_at node.links a.link.0)) e)

  now_is : (n : ℕ) → back_in (after node (Down link)) l n ≡ cond (is_in n (leavers link node.pending l.link)) (Some None) (back_in node l n)
  now_is n =
      ap (λ o. option_map (λ q. option_and_then (λ a. place_in (after node (Down link)) a) q) o)
      (dropped_back link node.pending (branch l.link n) ∙ ap (λ b. cond b None (option_map (λ q. but_link link q) (back node.pending (branch l.link n)))) other)
      ∙ places (back node.pending (branch l.link n))
      ∙ ap (λ b. cond b (Some None) (back_in node l n)) (sym (leavers_are link node.pending l.link n))

  leaver : (n : ℕ) → is_in n (leavers link node.pending l.link) ≡ true → (by : Option Place) × (back_in node l n ≡ Some by)
  leaver n e = by (back node.pending (branch l.link n)) refl
    where
      gone : is_gone link (back node.pending (branch l.link n)) ≡ true
      gone = sym (leavers_are link node.pending l.link n) ∙ e

      by : (o : Option (Option Asker)) → back node.pending (branch l.link n) ≡ o → (by : Option Place) × (option_map (λ q. option_and_then (λ a. place_in node a) q) o ≡ Some by)
      by None f = absurd (false≢true (ap (λ z. is_gone link z) (sym f) ∙ gone))
      by (Some o) f = (option_and_then (λ a. place_in node a) o, refl)

  leave : Leads (half_of node l) (map (λ n. Leaves n) (leavers link node.pending l.link)) (half_by (all_orphaned link node.pending) l.link (back_in (after node (Down link)) l))
  leave =
      subst (λ g. Leads (half_of node l) (map (λ n. Leaves n) (leavers link node.pending l.link)) g)
      (same_half (left_from (half_of node l) (leavers link node.pending l.link)) (half_by (all_orphaned link node.pending) l.link (back_in (after node (Down link)) l))
      (record { keeps = λ n. sym (asked_elsewhere link (asks_on l.link n) node.pending other); back = λ n. sym (now_is n) }))
      (leaves_lead (half_of node l) (leavers link node.pending l.link) leaver)

  leaves_meant : (ns : List ℕ) → AllByRecursion (λ d. IsMeant node (Down link) tag l d) (map (λ n. Leaves n) ns)
  leaves_meant [] = tt
  leaves_meant (n ∷ ns) = (tt, leaves_meant ns)

  finals_meant : (askers : List Asker) → AllByRecursion (λ d. IsMeant node (Down link) tag l d) (flat_map (λ a. ends_for (released node tag) l.link a) askers)
  finals_meant [] = tt
  finals_meant (a ∷ askers) =
      subst (λ ds. AllByRecursion (λ d. IsMeant node (Down link) tag l d) ds) (sym (flat_map-append (λ z. ends_for (released node tag) l.link z) (a ∷ []) askers ∙ ap (λ z. z ++ flat_map (λ z. ends_for (released node tag) l.link z) askers) (append-nil (ends_for (released node tag) l.link a))))
      (All-append (λ d. IsMeant node (Down link) tag l d) (ends_for (released node tag) l.link a) (flat_map (λ z. ends_for (released node tag) l.link z) askers) (end_meant node (Down link) tag l refl a) (finals_meant askers))

  pub down_done : IsDone node (Down link) tag l
  down_done =
      let ns : List Deed = map (λ n. Leaves n) (leavers link node.pending l.link) in
      let es : List Deed = flat_map (λ a. ends_for (released node tag) l.link a) (finals_of_drop link node.pending) in
      done_alone node (Down link) tag l (ns ++ es) refl
      (leads-append (half_of node l) ns (half_by (all_orphaned link node.pending) l.link (back_in (after node (Down link)) l)) es (half_of (after node (Down link)) l) leave
      (all_ends_lead (released node tag) (all_orphaned link node.pending) (branches_on link node.pending) l.link (back_in (after node (Down link)) l) (all_orphaned_sound link node.pending sound)))
      (down_tells (λ m. asks_in tag m) (asks_are tag) node link l.link ∙ (ends_sent node tag l.link (finals_of_drop link node.pending)).0
      ∙ sym (flat_map-append asked_by_deed ns es ∙ ap (λ z. z ++ flat_map asked_by_deed es) (nothing_told asked_by_deed (λ n. refl) (leavers link node.pending l.link))))
      (down_tells (λ m. answers_in tag m) (answers_are tag) node link l.link ∙ (ends_sent node tag l.link (finals_of_drop link node.pending)).1
      ∙ sym (flat_map-append answered_by_deed ns es ∙ ap (λ z. z ++ flat_map answered_by_deed es) (nothing_told answered_by_deed (λ n. refl) (leavers link node.pending l.link))))
      (All-append (λ d. IsMeant node (Down link) tag l d) ns es (leaves_meant (leavers link node.pending l.link)) (finals_meant (finals_of_drop link node.pending)))
