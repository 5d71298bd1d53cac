-- What one event makes of logs (`Brings`): the history goes on where a router's own log changes, what the router knows is what was made, and so
-- is what it sends; and its own set is what its clients have declared.
use Rattle.std.proofs.Common.{◌≡◌, ◌≤◌, ◌+◌, ℕ, Bool, true, false, cond, List, [], ◌∷◌, ◌++◌, map, Option, Some, None, refl, sym, ap, ◌∙◌, subst, append-nil, arith}
use Rattle.std.specs.Prelude.{◌&&◌, ◌==◌, not, nat_lt, flat_map}
use Rattle.std.specs.List.{fold}
use Rattle.std.specs.Option.{option_map_or}
use Rattle.std.proofs.lemmas.Bool.{true≢false, and_parts, eqb-true, not-true}
use Rattle.std.proofs.lemmas.Grind.{flat_map-append}
use Rattle.zr_id.specs.Zid.{is_named}
use Rattle.zr_id.specs.Record.{RecordState}
use Rattle.zr_id.specs.declared.link.LinkNo.{LinkNo}
use Rattle.zr_graph.specs.Record.{record_of}
use Rattle.zr_graph.specs.Base.{BaseState, is_newer}
use Rattle.zr_graph.proofs.Names.{same_is}
use Rattle.zr_msg.specs.declared.decl.Decl.{Decl}
use Rattle.zr_msg.specs.declared.decl.Kind.TheVariants as kind
use Rattle.zr_msg.specs.declared.msg.Msg.{Msg}
use Rattle.zr_msg.specs.declared.msg.Msg.TheVariants.{Sub, Unsub, Token, Untoken, Able, Unable, Interest, EndInterest, ToldSub, ToldAble, ToldUnsub, ToldToken, ToldUntoken, ToldUnable, ToldEnd, Push, Request, Response, Final, State, Step, Snap}
use Rattle.zr_msg.specs.declared.event.Event.{Event}
use Rattle.zr_msg.specs.declared.event.Event.TheVariants.{Up, Down, From}
use Rattle.zr_msg.specs.Peer.{PeerState}
use Rattle.zr_msg.specs.declared.peer.LinkPeer.{LinkPeer}
use Rattle.zr_msg.specs.declared.peer.Role.{Role}
use Rattle.zr_msg.specs.declared.peer.Role.TheVariants.{Client, Router}
use Rattle.zr_log_set.specs.Decls.{IsSet, set_of}
use Rattle.zr_local.specs.Rows.{declared_set}
use Rattle.zr_local.specs.declared.row.Row.{Row}
use Rattle.zr_log.specs.Log.{Change, changed}
use Rattle.zr_log.specs.Known.{KnownState, AreInOrder, position, decls, with_log}
use Rattle.zr_log.specs.Known as log
use Rattle.zr_node_spec.specs.Tables.{TableState, link_at, is_router, leads_to_router, is_to_child}
use Rattle.zr_node_spec.specs.Changes.{changes, steps}
use Rattle.zr_node_spec.specs.Samples.{tree_of}
use Rattle.zr_node_spec.specs.Snapshots.{snapshots_for, snapshots_on, sends_snapshots}
use Rattle.zr_node_spec.specs.State.{NodeState, tables}
use Rattle.zr_node_spec.specs.Table.{own_link, joined, parted, own_record, all_records, is_other_router, sends_own, sends_up, sends_parted, sends_down, sends_rows, sends_first, sends, rows_declared, rows_undeclared, rows_left, with_rows, row, key_of, able_kind, known_step, known_snap, after}
use Rattle.zr_node_spec.proofs.Changes.{rows_lead, decls_fold, decls_with, me_changes}
use Rattle.zr_law_settled.proofs.Answering.{request_silent, reply_silent, final_silent, behind_ends}
use Rattle.zr_law_settled.proofs.Spreading.{Name}
use Rattle.zr_law_settled.proofs.Silent.{silent_if, push_silent}
use Rattle.zr_law_settled.proofs.Positions.{position_with, position_changes, position_others, logs_found}
use Rattle.zr_law_settled.proofs.Values.{brings_none, brings, Sets, AllMade, made_later, made_of_append, made_if, made_on, made_old, steps_made, sets_on, decls_changes, decls_others, set_again, snaps_made}

-- What a router knows is what was made, and its own set is what its clients have declared.
pub record KnowsMade (made : Sets) (n : NodeState) : Type 0 where
  pub known : (z : Name) → decls n.known z ≡ made z (position n.known z)
  pub rows : decls n.known n.known.me ≡ declared_set n.rows

-- The history after an event: up to what the router had made it is the same, and all that the router knows and sends then was made.
pub record Brings (n : NodeState) (event : Event) (made : Sets) (most : Name → ℕ) : Type 0 where
  pub made' : Sets
  pub old : (z : Name) (k : ℕ) → (is_named n.known.me z ≡ true → k ≤ position n.known n.known.me) → made' z k ≡ made z k
  pub sets : ((z : Name) (k : ℕ) → IsSet (made z k)) → (z : Name) (k : ℕ) → IsSet (made' z k)
  pub knows : KnowsMade made' (after n event)
  pub sent : (most' : Name → ℕ) → ((z : Name) → most z ≤ most' z) → ((z : Name) → position (after n event).known z ≤ most' z) → (to : LinkNo) → AllMade made' most' (flat_map brings (sends_first n event to))

-- ---- snapshots are what is known

module _ (t : TableState) (before : List RecordState) (made : Sets) (most : Name → ℕ) (le : (z : Name) → position t.known z ≤ most z) (is : (z : Name) → decls t.known z ≡ made z (position t.known z)) where
  pub snapshots_made : AreInOrder t.known → (to : ℕ) → AllMade made most (flat_map brings (sends_snapshots t before to))
  snapshots_made order to = by (link_at t.links to)
    where
      by : (o : Option LinkPeer) → AllMade made most (flat_map brings (option_map_or (λ l. snapshots_on t before l) o []))
      by None = tt
      by (Some l) = made_if made most (is_router l.peer.role) (snapshots_for t before l.peer.id)
          (snaps_made t.known before t.base.records t.base.me l.peer.id made most le is t.known.logs (logs_found t.known order))

-- all that is sent was made
pub all_made : (n : NodeState) (event : Event) (made : Sets) (most most' : Name → ℕ) (b : Brings n event made most) → AreInOrder (after n event).known → ((z : Name) → most z ≤ most' z) →
    ((z : Name) → position (after n event).known z ≤ most' z) → (to : LinkNo) → AllMade b.made' most' (flat_map brings (sends n event to))
all_made n event made most most' b order later le to =
    made_of_append b.made' most' (sends_first n event to) (sends_snapshots (tables (after n event)) n.base.records to.0) (b.sent most' later le to)
    (snapshots_made (tables (after n event)) n.base.records b.made' most' le b.knows.known order to.0)

-- ---- records bring nothing of logs

records_silent : (rs : List RecordState) → flat_map brings (map (λ r. State r) rs) ≡ []
records_silent [] = refl
records_silent (r ∷ rs) = records_silent rs

own_silent : (b : BaseState) → flat_map brings (own_record b) ≡ []
own_silent b = by (record_of b.records b.me)
  where
    by : (o : Option RecordState) → flat_map brings (option_map_or (λ r. State r ∷ []) o []) ≡ []
    by None = refl
    by (Some r) = refl

module _ (n : NodeState) where
  others_silent : (from : ℕ) (b : BaseState) (to : ℕ) → flat_map brings (sends_own n from b to) ≡ []
  others_silent from b to = silent_if brings (is_other_router n from to) (own_record b) (own_silent b)

  pub up_silent : (link : ℕ) (peer : PeerState) (role : Role) (to : ℕ) → flat_map brings (sends_up n link peer role to) ≡ []
  up_silent link peer Client to = refl
  up_silent link peer Router to = by (to == link)
    where
      by : (t : Bool) → flat_map brings (cond t (all_records (joined n.base (own_link peer))) (sends_own n link (joined n.base (own_link peer)) to)) ≡ []
      by true = records_silent (joined n.base (own_link peer)).records
      by false = others_silent link (joined n.base (own_link peer)) to

  parted_silent : (link : ℕ) (peer : PeerState) (role : Role) (to : ℕ) → flat_map brings (sends_parted n link peer role to) ≡ []
  parted_silent link peer Client to = refl
  parted_silent link peer Router to = others_silent link (parted n.base peer.id) to

  pub down_silent : (link : ℕ) (o : Option LinkPeer) (to : ℕ) → flat_map brings (sends_down n link o to) ≡ []
  down_silent link None to = refl
  down_silent link (Some l) to = parted_silent link l.peer l.peer.role to

  module _ (made : Sets) (most : Name → ℕ) (h : KnowsMade made n) (me : n.known.me ≡ n.base.me) where
    -- ---- nothing is new

    keeps : (event : Event) → (after n event).known ≡ n.known → (after n event).rows ≡ n.rows → ((to : LinkNo) → flat_map brings (sends_first n event to) ≡ []) → Brings n event made most
    keeps event same same_rows silent = record {
      made' = made;
      old = λ z k le. refl;
      sets = λ s. s;
      knows = record {
        known = λ z. ap (λ k. decls k z) same ∙ h.known z ∙ ap (λ k. made z (position k z)) (sym same);
        rows = ap (λ k. decls k k.me) same ∙ h.rows ∙ ap declared_set (sym same_rows);
      };
      sent = λ most' later le to. subst (λ ms. AllMade made most' ms) (sym (silent to)) tt;
    }

    -- ---- rows change

    rows_bring : (event : Event) (rows : List Row) → (after n event).known ≡ (with_rows n rows).known → (after n event).rows ≡ rows →
        ((to : LinkNo) → flat_map brings (sends_first n event to) ≡ flat_map brings (sends_rows n rows to.0)) → Brings n event made most
    rows_bring event rows is rows_is first = record {
      made' = made_on n.known.me made (position n.known n.known.me) cs;
      old = λ z k le. made_old n.known.me cs made (position n.known n.known.me) z k le;
      sets = λ s. sets_on n.known.me cs made (position n.known n.known.me) s;
      knows = record { known = λ z. known z (is_named n.known.me z) refl; rows = own };
      sent = λ most' later le to. subst (λ ms. AllMade (made_on n.known.me made (position n.known n.known.me) cs) most' ms) (sym (first to))
          (made_if (made_on n.known.me made (position n.known n.known.me) cs) most' (is_to_child (tables n) n.base.me to.0) (steps n.base.me (position n.known n.base.me) cs) (steps_are most' le));
    }
      where
        cs : List Change
        cs = changes n.rows rows

        now : (z : Name) → position (after n event).known z ≡ position (with_rows n rows).known z
        now z = ap (λ k. position k z) is

        known : (z : Name) (t : Bool) → is_named n.known.me z ≡ t → decls (after n event).known z ≡ made_on n.known.me made (position n.known n.known.me) cs z (position (after n event).known z)
        known z true e = subst (λ q. decls (after n event).known q ≡ made_on n.known.me made (position n.known n.known.me) cs q (position (after n event).known q)) (same_is n.known.me z e)
            (ap (λ k. decls k n.known.me) is ∙ decls_changes n.known cs made (position n.known n.known.me) (h.known n.known.me)
            ∙ ap (made_on n.known.me made (position n.known n.known.me) cs n.known.me) (sym (now n.known.me ∙ position_changes n.known cs)))
        known z false e =
            ap (λ k. decls k z) is ∙ decls_others n.known cs z e ∙ h.known z ∙ ap (made z) (sym (now z ∙ position_others n.known cs z e))
            ∙ sym (made_old n.known.me cs made (position n.known n.known.me) z (position (after n event).known z) (λ t. absurd (true≢false (sym t ∙ e))))

        own : decls (after n event).known (after n event).known.me ≡ declared_set (after n event).rows
        own =
            ap (λ k. decls k k.me) is ∙ ap (decls (with_rows n rows).known) (me_changes n.known cs) ∙ decls_fold n.known cs
            ∙ ap (λ s. fold changed s cs) h.rows ∙ rows_lead n.rows rows ∙ ap declared_set (sym rows_is)

        steps_are : (most' : Name → ℕ) → ((z : Name) → position (after n event).known z ≤ most' z) → AllMade (made_on n.known.me made (position n.known n.known.me) cs) most' (flat_map brings (steps n.base.me (position n.known n.base.me) cs))
        steps_are most' le = subst (λ q. AllMade (made_on n.known.me made (position n.known n.known.me) cs) most' (flat_map brings (steps q (position n.known q) cs))) me
            (steps_made n.known.me cs made (position n.known n.known.me) most' (let e = now n.known.me in omega (arith, e, position_changes n.known cs, le n.known.me)))

    -- ---- a change or a snapshot comes

    -- it is kept as the set under its number, or not
    taken_bring : (event : Event) (msg : Msg) (source : Name) (number : ℕ) (set : List Decl) (t : Bool) (k' : KnownState) → k' ≡ cond t (with_log n.known source number set) n.known → (after n event).known ≡ k' →
        (after n event).rows ≡ n.rows → (t ≡ true → (is_named source n.known.me ≡ false) × (set ≡ made source number)) → AllMade made most (brings msg) →
        ((to : LinkNo) → (u : Bool) × (sends_first n event to ≡ cond u (msg ∷ []) [])) → Brings n event made most
    taken_bring event msg source number set t k' k_is is rows_is right came sent = record {
      made' = made;
      old = λ z k le. refl;
      sets = λ s. s;
      knows = record { known = known t (is ∙ k_is) right; rows = own t (is ∙ k_is) right };
      sent = λ most' later le to. subst (λ ms. AllMade made most' (flat_map brings ms)) (sym (sent to).1) (made_if made most' (sent to).0 (msg ∷ [])
          (subst (λ ms. AllMade made most' ms) (sym (append-nil (brings msg)))
          (made_later made made most most' (record { later = later; stays = λ z k le. refl }) (brings msg) came)));
    }
      where
        known : (t : Bool) → (after n event).known ≡ cond t (with_log n.known source number set) n.known → (t ≡ true → (is_named source n.known.me ≡ false) × (set ≡ made source number)) →
            (z : Name) → decls (after n event).known z ≡ made z (position (after n event).known z)
        known false e right z = ap (λ k. decls k z) e ∙ h.known z ∙ ap (λ k. made z (position k z)) (sym e)
        known true e right z =
            ap (λ k. decls k z) e ∙ decls_with n.known source number set z ∙ by (is_named source z) refl
            ∙ ap (made z) (sym (position_with n.known source number set z)) ∙ ap (λ k. made z (position k z)) (sym e)
          where
            by : (s : Bool) → is_named source z ≡ s → cond s set (decls n.known z) ≡ made z (cond s number (position n.known z))
            by true s = (right refl).1 ∙ ap (λ q. made q number) (same_is source z s)
            by false s = h.known z

        own : (t : Bool) → (after n event).known ≡ cond t (with_log n.known source number set) n.known → (t ≡ true → (is_named source n.known.me ≡ false) × (set ≡ made source number)) →
            decls (after n event).known (after n event).known.me ≡ declared_set (after n event).rows
        own false e right = ap (λ k. decls k k.me) e ∙ h.rows ∙ ap declared_set (sym rows_is)
        own true e right =
            ap (λ k. decls k k.me) e ∙ decls_with n.known source number set n.known.me ∙ ap (λ s. cond s set (decls n.known n.known.me)) (right refl).0 ∙ h.rows ∙ ap declared_set (sym rows_is)

    step_brings : (link : LinkNo) (source : Name) (number : ℕ) (added : Bool) (decl : Decl) → AllMade made most (brings (Step source number added decl)) → Brings n (From link (Step source number added decl)) made most
    step_brings link source number added decl came =
        taken_bring (From link (Step source number added decl)) (Step source number added decl) source number (changed (decls n.known source) c) (leads_to_router n.links link.0 && log.is_next n.known source number)
        (known_step n link.0 source number c) (joined_if (leads_to_router n.links link.0) (log.is_next n.known source number)) refl refl (λ t. right (and_parts (leads_to_router n.links link.0) (log.is_next n.known source number) t).1) came
        (λ to. (leads_to_router n.links link.0 && (log.is_next n.known source number && is_to_child (tables n) source to.0), refl))
      where
        c : Change
        c = record { added = added; decl = decl }

        joined_if : (a b : Bool) → cond a (cond b (with_log n.known source number (changed (decls n.known source) c)) n.known) n.known ≡ cond (a && b) (with_log n.known source number (changed (decls n.known source) c)) n.known
        joined_if true b = refl
        joined_if false b = refl

        right : log.is_next n.known source number ≡ true → (is_named source n.known.me ≡ false) × (changed (decls n.known source) c ≡ made source number)
        right e =
            let parts = and_parts (not (is_named source n.known.me)) (number == position n.known source + 1) e in
            let next : number ≡ position n.known source + 1 = eqb-true number (position n.known source + 1) parts.1 in
            let at : came.0.1.0 ≡ position n.known source = omega (arith, next, came.0.1.1) in
            (not-true (is_named source n.known.me) parts.0, ap (λ s. changed s c) (h.known source ∙ ap (made source) (sym at)) ∙ sym came.0.1.2)

    snap_brings : (link : LinkNo) (source : Name) (number : ℕ) (ds : List Decl) → ((z : Name) (k : ℕ) → IsSet (made z k)) → AllMade made most (brings (Snap source number ds)) → Brings n (From link (Snap source number ds)) made most
    snap_brings link source number ds sets came =
        taken_bring (From link (Snap source number ds)) (Snap source number ds) source number (set_of ds) (leads_to_router n.links link.0 && log.is_newer n.known source number)
        (known_snap n link.0 source number ds) (joined_if (leads_to_router n.links link.0) (log.is_newer n.known source number)) refl refl (λ t. right (and_parts (leads_to_router n.links link.0) (log.is_newer n.known source number) t).1) came
        (λ to. (leads_to_router n.links link.0 && (log.is_newer n.known source number && is_to_child (tables n) source to.0), refl))
      where
        joined_if : (a b : Bool) → cond a (cond b (with_log n.known source number (set_of ds)) n.known) n.known ≡ cond (a && b) (with_log n.known source number (set_of ds)) n.known
        joined_if true b = refl
        joined_if false b = refl

        is_set : IsSet ds
        is_set = subst IsSet (sym came.0.1) (sets source number)

        right : log.is_newer n.known source number ≡ true → (is_named source n.known.me ≡ false) × (set_of ds ≡ made source number)
        right e =
            let parts = and_parts (not (is_named source n.known.me)) (nat_lt (position n.known source) number) e in
            (not-true (is_named source n.known.me) parts.0, set_again ds is_set ∙ came.0.1)

    -- ---- events

    pub from_brings : ((z : Name) (k : ℕ) → IsSet (made z k)) → (link : LinkNo) (msg : Msg) → AllMade made most (brings msg) → Brings n (From link msg) made most
    from_brings sets link (Sub id key) came = rows_bring (From link (Sub id key)) (rows_declared n link.0 (row link.0 id kind.Sub key)) refl refl (λ to. refl)
    from_brings sets link (Unsub id) came = rows_bring (From link (Unsub id)) (rows_undeclared n link.0 (key_of link.0 id kind.Sub)) refl refl (λ to. refl)
    from_brings sets link (Token id key) came = rows_bring (From link (Token id key)) (rows_declared n link.0 (row link.0 id kind.Token key)) refl refl (λ to. refl)
    from_brings sets link (Untoken id) came = rows_bring (From link (Untoken id)) (rows_undeclared n link.0 (key_of link.0 id kind.Token)) refl refl (λ to. refl)
    from_brings sets link (Able id key complete) came = rows_bring (From link (Able id key complete)) (rows_declared n link.0 (row link.0 id (able_kind complete) key)) refl refl (λ to. refl)
    from_brings sets link (Unable id) came = rows_bring (From link (Unable id)) (rows_undeclared n link.0 (key_of link.0 id kind.Able)) refl refl (λ to. refl)
    from_brings sets link (Interest id current future kinds key aggregate) came = keeps (From link (Interest id current future kinds key aggregate)) refl refl (λ to. refl)
    from_brings sets link (EndInterest id) came = keeps (From link (EndInterest id)) refl refl (λ to. refl)
    from_brings sets link (ToldSub id key interest) came = keeps (From link (ToldSub id key interest)) refl refl (λ to. refl)
    from_brings sets link (ToldToken id key interest) came = keeps (From link (ToldToken id key interest)) refl refl (λ to. refl)
    from_brings sets link (ToldAble id key complete interest) came = keeps (From link (ToldAble id key complete interest)) refl refl (λ to. refl)
    from_brings sets link (ToldUnsub id) came = keeps (From link (ToldUnsub id)) refl refl (λ to. refl)
    from_brings sets link (ToldUntoken id) came = keeps (From link (ToldUntoken id)) refl refl (λ to. refl)
    from_brings sets link (ToldUnable id) came = keeps (From link (ToldUnable id)) refl refl (λ to. refl)
    from_brings sets link (ToldEnd interest) came = keeps (From link (ToldEnd interest)) refl refl (λ to. refl)
    from_brings sets link (Push tree content) came =
        keeps (From link (Push tree content)) refl refl (λ to. push_silent brings (tables n) link.0 content (λ tree. refl) (tree_of (tables n) (link_at n.links link.0) tree) to.0)
    from_brings sets link (Request tree id target content) came =
        keeps (From link (Request tree id target content)) refl refl (λ to. request_silent brings brings_none (tables n) n.pending link.0 tree id target content to.0)
    from_brings sets link (Response id content) came = keeps (From link (Response id content)) refl refl (λ to. reply_silent brings brings_none n.pending n.held link.0 id content to.0)
    from_brings sets link (Final id extras) came = keeps (From link (Final id extras)) refl refl (λ to. final_silent brings brings_none n.pending n.held link.0 id extras to.0)
    from_brings sets link (State r) came = keeps (From link (State r)) refl refl (λ to. silent_if brings (leads_to_router n.links link.0 && is_newer n.base r && is_other_router n link.0 to.0) (State r ∷ []) refl)
    from_brings sets link (Step source number added decl) came = step_brings link source number added decl came
    from_brings sets link (Snap source number ds) came = snap_brings link source number ds sets came

    pub up_brings : (link : LinkNo) (peer : PeerState) → Brings n (Up link peer) made most
    up_brings link peer = keeps (Up link peer) refl refl (λ to. up_silent link.0 peer peer.role to.0)

    pub down_brings : (link : LinkNo) → Brings n (Down link) made most
    down_brings link = rows_bring (Down link) (rows_left n link.0) refl refl (λ to.
        behind_ends brings brings_none n.pending n.held link.0 to.0 (sends_down n link.0 (link_at n.links link.0) to.0 ++ sends_rows n (rows_left n link.0) to.0)
        ∙ flat_map-append brings (sends_down n link.0 (link_at n.links link.0) to.0) (sends_rows n (rows_left n link.0) to.0)
        ∙ ap (λ z. z ++ flat_map brings (sends_rows n (rows_left n link.0) to.0)) (down_silent link.0 (link_at n.links link.0) to.0))
