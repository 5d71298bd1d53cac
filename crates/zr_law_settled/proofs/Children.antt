-- What an event tells of logs on the links to routers that are children then: what is known of a log is told a new child whole, and each child
-- what is new of it. So a child is told all, or was a child before and nothing is new.
use Rattle.std.proofs.Common.{◌≡◌, ◌≤◌, ◌+◌, ℕ, max, Bool, true, false, cond, List, [], ◌∷◌, ◌++◌, length, Option, Some, None, ◌⊎◌, inl, inr, refl, sym, ap, ◌∙◌, subst, arith}
use Rattle.std.specs.Prelude.{◌&&◌, ◌==◌, nat_lt, not}
use Rattle.std.specs.Option.{option_map_or}
use Rattle.std.proofs.lemmas.Bool.{and_parts, and_from, eqb-true, ltb-true}
use Rattle.zr_id.specs.Zid.{is_named}
use Rattle.zr_id.specs.Record.{RecordState}
use Rattle.zr_id.specs.declared.link.LinkNo.{LinkNo}
use Rattle.zr_graph.proofs.Names.{same_is}
use Rattle.zr_tree.specs.Walk.{graph_of}
use Rattle.zr_tree.specs.Tree.{is_child}
use Rattle.zr_msg.specs.declared.decl.Decl.{Decl}
use Rattle.zr_msg.specs.declared.msg.Msg.{Msg}
use Rattle.zr_msg.specs.declared.event.Event.{Event}
use Rattle.zr_msg.specs.declared.peer.LinkPeer.{LinkPeer}
use Rattle.zr_log_set.specs.Decls.{set_of}
use Rattle.zr_local.specs.declared.row.Row.{Row}
use Rattle.zr_log.specs.Log.{Change, changed}
use Rattle.zr_log.specs.Known.{KnownState, AreInOrder, position, decls, with_log, is_next, is_newer}
use Rattle.zr_node_spec.specs.Tables.{TableState, link_at, is_router, is_to_child, leads_to_child, leads_to_router}
use Rattle.zr_node_spec.specs.Changes.{steps, changes}
use Rattle.zr_node_spec.specs.Snapshots.{is_new_child, snapshots_for, snapshots_on, sends_snapshots}
use Rattle.zr_node_spec.specs.State.{NodeState, tables}
use Rattle.zr_node_spec.specs.Table.{sends_rows, sends_first, sends, with_rows, known_step, known_snap, after}
use Rattle.zr_law_settled.proofs.Spreading.{Name, best}
use Rattle.zr_law_settled.proofs.Positions.{placed, places_in, places, best_both, best_if, position_with, position_changes, position_others, steps_le, steps_tell, logs_found, snaps_le, snaps_tell}

-- a router is a child of another one by records
abbrev pub child_by : List RecordState → Name → Name → Name → Bool
child_by records root me name = is_child (graph_of records) root me name

-- ---- new children

module _ (t : TableState) (before : List RecordState) where
  -- snapshots tell no more than is known
  pub snapshots_le : AreInOrder t.known → (to : ℕ) (z : Name) → best z (places (sends_snapshots t before to)) ≤ position t.known z
  snapshots_le order to z = by (link_at t.links to)
    where
      by : (o : Option LinkPeer) → best z (places (option_map_or (λ l. snapshots_on t before l) o [])) ≤ position t.known z
      by None = omega arith
      by (Some l) = best_if z (is_router l.peer.role) (snapshots_for t before l.peer.id) (position t.known z)
          (λ router. snaps_le t.known before t.base.records t.base.me l.peer.id z t.known.logs (logs_found t.known order))

  -- a new child is told all that is known
  pub snapshots_tell : (l : LinkPeer) → link_at t.links l.link.0 ≡ Some l → is_router l.peer.role ≡ true → (z : Name) → is_new_child before t.base.records t.base.me z l.peer.id ≡ true →
      position t.known z ≤ best z (places (sends_snapshots t before l.link.0))
  snapshots_tell l at router z new =
      subst (λ (o : Option LinkPeer). position t.known z ≤ best z (places (option_map_or (λ l. snapshots_on t before l) o []))) (sym at)
      (subst (λ (b : Bool). position t.known z ≤ best z (places (cond b (snapshots_for t before l.peer.id) []))) (sym router)
      (snaps_tell t.known before t.base.records t.base.me l.peer.id z new t.known.logs))

-- ---- children

-- On a link to a child all that is known of a log is told, or the router was a child before and nothing is new.
abbrev pub IsTold : NodeState → Event → LinkPeer → Name → Type 0
IsTold n event l z =
    (position (after n event).known z ≤ best z (places (sends n event l.link)))
    ⊎ ((child_by n.base.records z (after n event).base.me l.peer.id ≡ true) × (position (after n event).known z ≡ position n.known z))

module _ (n : NodeState) (event : Event) (z : Name) where
  all_sent : (to : LinkNo) → best z (places (sends n event to)) ≡ max (best z (places (sends_first n event to))) (best z (places (sends_snapshots (tables (after n event)) n.base.records to.0)))
  all_sent to = best_both z (sends_first n event to) (sends_snapshots (tables (after n event)) n.base.records to.0)

  -- where nothing is new, a new child is sent the snapshot
  pub base_told : (l : LinkPeer) → position (after n event).known z ≡ position n.known z → link_at (after n event).links l.link.0 ≡ Some l → is_router l.peer.role ≡ true →
      child_by (after n event).base.records z (after n event).base.me l.peer.id ≡ true → IsTold n event l z
  base_told l same at router child = by (child_by n.base.records z (after n event).base.me l.peer.id) refl
    where
      by : (t : Bool) → child_by n.base.records z (after n event).base.me l.peer.id ≡ t → IsTold n event l z
      by true e = inr (e, same)
      by false e = inl (omega (
        arith,
        all_sent l.link,
        snapshots_tell (tables (after n event)) n.base.records l at router z
            (and_from (child_by (after n event).base.records z (after n event).base.me l.peer.id) (not (child_by n.base.records z (after n event).base.me l.peer.id)) child (ap not e)),
      ))

  -- where something is new, it is among what is sent first
  pub first_told : (l : LinkPeer) → position (after n event).known z ≤ best z (places (sends_first n event l.link)) → IsTold n event l z
  first_told l le = inl (omega (arith, all_sent l.link, le))

  -- all that is sent is known
  pub all_le : (to : LinkNo) → AreInOrder (after n event).known → best z (places (sends_first n event to)) ≤ position (after n event).known z → best z (places (sends n event to)) ≤ position (after n event).known z
  all_le to order le = omega (arith, all_sent to, le, snapshots_le (tables (after n event)) n.base.records order to.0 z)

-- ---- what is new

module _ (n : NodeState) where
  -- a link to a child
  to_child : (l : LinkPeer) → link_at n.links l.link.0 ≡ Some l → is_router l.peer.role ≡ true → (root : Name) → child_by n.base.records root n.base.me l.peer.id ≡ true →
      is_to_child (tables n) root l.link.0 ≡ true
  to_child l at router root child = ap (λ o. option_map_or (λ k. leads_to_child (tables n) root k) o false) at
      ∙ and_from (is_router l.peer.role) (child_by n.base.records root n.base.me l.peer.id) router child

  -- rows change
  module _ (me : n.known.me ≡ n.base.me) (rows : List Row) where
    abbrev cs : List Change
    cs = changes n.rows rows

    pub rows_grow : (z : Name) → position n.known z ≤ position (with_rows n rows).known z
    rows_grow z = by (is_named n.known.me z) refl
      where
        by : (t : Bool) → is_named n.known.me z ≡ t → position n.known z ≤ position (with_rows n rows).known z
        by false e = let same = position_others n.known cs z e in omega (arith, same)
        by true e = subst (λ q. position n.known q ≤ position (with_rows n rows).known q) (same_is n.known.me z e) (let more = position_changes n.known cs in omega (arith, more))

    pub rows_le : (to : ℕ) (z : Name) → best z (places (sends_rows n rows to)) ≤ position (with_rows n rows).known z
    rows_le to z = best_if z (is_to_child (tables n) n.base.me to) _ (position (with_rows n rows).known z) (λ t. by (is_named n.base.me z) refl (steps_le n.base.me (position n.known n.base.me) cs z))
      where
        by : (t : Bool) → is_named n.base.me z ≡ t → best z (places (steps n.base.me (position n.known n.base.me) cs)) ≤ cond t (position n.known n.base.me + length cs) 0 →
            best z (places (steps n.base.me (position n.known n.base.me) cs)) ≤ position (with_rows n rows).known z
        by false e le = omega (arith, le)
        by true e le =
            let here : position (with_rows n rows).known n.known.me ≡ position n.known n.known.me + length cs = position_changes n.known cs in
            let z_is : n.known.me ≡ z = me ∙ same_is n.base.me z e in
            let now : position (with_rows n rows).known z ≡ position n.known n.base.me + length cs = subst (λ q. position (with_rows n rows).known q ≡ position n.known n.base.me + length cs) z_is
            (subst (λ q. position (with_rows n rows).known n.known.me ≡ position n.known q + length cs) me here) in
            omega (arith, le, now)

    -- a child is told each change of the own log
    pub rows_told : (l : LinkPeer) → link_at n.links l.link.0 ≡ Some l → is_router l.peer.role ≡ true → (z : Name) → child_by n.base.records z n.base.me l.peer.id ≡ true →
        (position (with_rows n rows).known z ≤ best z (places (sends_rows n rows l.link.0))) ⊎ (position (with_rows n rows).known z ≡ position n.known z)
    rows_told l at router z child = by (is_named n.known.me z) refl
      where
        by : (t : Bool) → is_named n.known.me z ≡ t → (position (with_rows n rows).known z ≤ best z (places (sends_rows n rows l.link.0))) ⊎ (position (with_rows n rows).known z ≡ position n.known z)
        by false e = inr (position_others n.known cs z e)
        by true e = at_changes cs refl
          where
            z_is : n.base.me ≡ z
            z_is = sym me ∙ same_is n.known.me z e

            now : position (with_rows n rows).known z ≡ position n.known n.base.me + length cs
            now = subst (λ q. position (with_rows n rows).known q ≡ position n.known n.base.me + length cs) (me ∙ z_is)
                (subst (λ q. position (with_rows n rows).known n.known.me ≡ position n.known q + length cs) me (position_changes n.known cs))

            sent : sends_rows n rows l.link.0 ≡ steps n.base.me (position n.known n.base.me) cs
            sent = ap (λ t. cond t (steps n.base.me (position n.known n.base.me) cs) [])
                (to_child l at router n.base.me (ap (λ q. child_by n.base.records q n.base.me l.peer.id) z_is ∙ child))

            at_changes : (ds : List Change) → cs ≡ ds →
                (position (with_rows n rows).known z ≤ best z (places (sends_rows n rows l.link.0))) ⊎ (position (with_rows n rows).known z ≡ position n.known z)
            at_changes [] none = inr (
                let count : length cs ≡ 0 = ap length none in
                let same : position n.known n.base.me ≡ position n.known z = ap (position n.known) z_is in
                omega (arith, now, count, same)
                )
            at_changes (d ∷ ds) some = inl (
                let count : length cs ≡ length (d ∷ ds) = ap length some in
                let told : position n.known n.base.me + length (d ∷ ds) ≤ best n.base.me (places (steps n.base.me (position n.known n.base.me) (d ∷ ds))) = steps_tell n.base.me (position n.known n.base.me) d ds in
                let same : best z (places (sends_rows n rows l.link.0)) ≡ best n.base.me (places (steps n.base.me (position n.known n.base.me) (d ∷ ds))) =
                ap (λ ms. best z (places ms)) sent ∙ ap (λ q. best q (places (steps n.base.me (position n.known n.base.me) cs))) (sym z_is)
                ∙ ap (λ es. best n.base.me (places (steps n.base.me (position n.known n.base.me) es))) some in
                omega (arith, now, count, told, same)
                )

  -- ---- a change or a snapshot comes

  -- It comes over a link to a router or not, and is news or not; and news are no older than what is known.
  module _ (msg : Msg) (source : Name) (number : ℕ) (says : places_in msg ≡ record { source = source; known = placed number } ∷ []) (leads news : Bool) (k' : KnownState)
      (now : (z : Name) → position k' z ≡ cond (leads && news) (cond (is_named source z) number (position n.known z)) (position n.known z))
      (newer : news ≡ true → position n.known source ≤ number) where
    pub taken_grows : (z : Name) → position n.known z ≤ position k' z
    taken_grows z = by leads news refl (is_named source z) refl (now z)
      where
        by : (a b : Bool) → news ≡ b → (t : Bool) → is_named source z ≡ t → position k' z ≡ cond (a && b) (cond t number (position n.known z)) (position n.known z) → position n.known z ≤ position k' z
        by true true new true e is = let same : position n.known source ≡ position n.known z = ap (position n.known) (same_is source z e) in omega (arith, is, newer new, same)
        by true true new false e is = omega (arith, is)
        by true false new t e is = omega (arith, is)
        by false b new t e is = omega (arith, is)

    one_note : (z : Name) → best z (places (msg ∷ [])) ≡ max (cond (is_named source z) number 0) 0
    one_note z = ap (λ ns. best z (ns ++ [])) says

    pub taken_le : (to : ℕ) (z : Name) → best z (places (cond (leads && (news && is_to_child (tables n) source to)) (msg ∷ []) [])) ≤ position k' z
    taken_le to z = by leads news (is_to_child (tables n) source to) (is_named source z) (one_note z) (now z)
      where
        by : (a b c t : Bool) → best z (places (msg ∷ [])) ≡ max (cond t number 0) 0 → position k' z ≡ cond (a && b) (cond t number (position n.known z)) (position n.known z) →
            best z (places (cond (a && (b && c)) (msg ∷ []) [])) ≤ position k' z
        by true true true true one is = omega (arith, one, is)
        by true true true false one is = omega (arith, one, is)
        by true true false t one is = omega arith
        by true false c t one is = omega arith
        by false b c t one is = omega arith

    pub taken_told : (l : LinkPeer) → link_at n.links l.link.0 ≡ Some l → is_router l.peer.role ≡ true → (z : Name) → child_by n.base.records z n.base.me l.peer.id ≡ true →
        (position k' z ≤ best z (places (cond (leads && (news && is_to_child (tables n) source l.link.0)) (msg ∷ []) []))) ⊎ (position k' z ≡ position n.known z)
    taken_told l at router z child = by leads news (is_named source z) refl (one_note z) (now z)
      where
        by : (a b t : Bool) → is_named source z ≡ t → best z (places (msg ∷ [])) ≡ max (cond t number 0) 0 → position k' z ≡ cond (a && b) (cond t number (position n.known z)) (position n.known z) →
            (position k' z ≤ best z (places (cond (a && (b && is_to_child (tables n) source l.link.0)) (msg ∷ []) []))) ⊎ (position k' z ≡ position n.known z)
        by true true true e one is = inl (
            let sent : best z (places (cond (is_to_child (tables n) source l.link.0) (msg ∷ []) [])) ≡ best z (places (msg ∷ [])) = ap (λ c. best z (places (cond c (msg ∷ []) [])))
            (to_child l at router source (ap (λ q. child_by n.base.records q n.base.me l.peer.id) (same_is source z e) ∙ child)) in
            omega (arith, one, is, sent)
            )
        by true true false e one is = inr is
        by true false t e one is = inr is
        by false b t e one is = inr is

  -- a change
  module _ (from : ℕ) (source : Name) (number : ℕ) (c : Change) where
    pub step_now : (z : Name) → position (known_step n from source number c) z ≡
        cond (leads_to_router n.links from && is_next n.known source number) (cond (is_named source z) number (position n.known z)) (position n.known z)
    step_now z = by (leads_to_router n.links from) (is_next n.known source number)
      where
        by : (a b : Bool) → position (cond a (cond b (with_log n.known source number (changed (decls n.known source) c)) n.known) n.known) z ≡
            cond (a && b) (cond (is_named source z) number (position n.known z)) (position n.known z)
        by true true = position_with n.known source number (changed (decls n.known source) c) z
        by true false = refl
        by false b = refl

    pub step_newer : is_next n.known source number ≡ true → position n.known source ≤ number
    step_newer h =
        let e : number ≡ position n.known source + 1 = eqb-true number (position n.known source + 1) (and_parts (not (is_named source n.known.me)) (number == position n.known source + 1) h).1 in
        omega (arith, e)

  -- a snapshot
  module _ (from : ℕ) (source : Name) (number : ℕ) (ds : List Decl) where
    pub snap_now : (z : Name) → position (known_snap n from source number ds) z ≡
        cond (leads_to_router n.links from && is_newer n.known source number) (cond (is_named source z) number (position n.known z)) (position n.known z)
    snap_now z = by (leads_to_router n.links from) (is_newer n.known source number)
      where
        by : (a b : Bool) → position (cond a (cond b (with_log n.known source number (set_of ds)) n.known) n.known) z ≡
            cond (a && b) (cond (is_named source z) number (position n.known z)) (position n.known z)
        by true true = position_with n.known source number (set_of ds) z
        by true false = refl
        by false b = refl

    pub snap_newer : is_newer n.known source number ≡ true → position n.known source ≤ number
    snap_newer h =
        let lt = ltb-true (position n.known source) number (and_parts (not (is_named source n.known.me)) (nat_lt (position n.known source) number) h).1 in
        omega arith
