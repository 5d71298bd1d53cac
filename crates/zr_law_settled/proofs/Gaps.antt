-- No change of a log comes before the one that it follows: what is on the way to a router has no gap (`Gapless`), so that the router refuses none.
-- What is on the way stays so where the receiver knows more, where it takes the first (by definition), and where the sender adds what it sends
-- at an event (`sends_climb`): a change only to a child, which knows all before it or is being told.
use Rattle.std.proofs.Common.{◌≡◌, ◌≤◌, ◌+◌, ℕ, max, Bool, true, false, cond, List, [], ◌∷◌, ◌++◌, Option, Some, None, inl, inr, refl, sym, ap, ◌∙◌, subst, arith}
use Rattle.std.specs.Prelude.{◌&&◌, ◌==◌, nat_lt, not, flat_map}
use Rattle.std.specs.Option.{option_map_or}
use Rattle.std.proofs.lemmas.Bool.{false≢true, and_parts, eqb-true, ltb-true}
use Rattle.std.proofs.lemmas.Grind.{flat_map-append}
use Rattle.zr_id.specs.Zid.{is_named}
use Rattle.zr_id.specs.Record.{RecordState}
use Rattle.zr_id.specs.declared.link.LinkNo.{LinkNo}
use Rattle.zr_graph.specs.Base.{is_newer}
use Rattle.zr_graph.proofs.Names.{same_is, same_refl}
use Rattle.zr_msg.specs.declared.decl.Decl.{Decl}
use Rattle.zr_msg.specs.declared.decl.Kind.TheVariants as kind
use Rattle.zr_msg.specs.declared.msg.Msg.{Msg}
use Rattle.zr_msg.specs.declared.msg.Msg.TheVariants.{Sub, Unsub, Token, Untoken, Able, Unable, Interest, EndInterest, ToldSub, ToldAble, ToldUnsub, ToldToken, ToldUntoken, ToldUnable, ToldEnd, Push, Request, Response, Final, State, Step, Snap}
use Rattle.zr_msg.specs.declared.event.Event.{Event}
use Rattle.zr_msg.specs.declared.event.Event.TheVariants.{Up, Down, From}
use Rattle.zr_msg.specs.declared.peer.LinkPeer.{LinkPeer}
use Rattle.zr_local.specs.declared.row.Row.{Row}
use Rattle.zr_log.specs.declared.log.Log.{Log}
use Rattle.zr_log.specs.Log.{Change}
use Rattle.zr_log.specs.Known.{position, is_next, is_gap}
use Rattle.zr_log.specs.Known as log
use Rattle.zr_node_spec.specs.Tables.{TableState, link_at, is_router, leads_to_router, is_to_child}
use Rattle.zr_node_spec.specs.Changes.{changes, steps}
use Rattle.zr_node_spec.specs.Samples.{tree_of}
use Rattle.zr_node_spec.specs.Snapshots.{is_new_child, snapshot, snapshots_for, snapshots_on, sends_snapshots}
use Rattle.zr_node_spec.specs.State.{NodeState, tables}
use Rattle.zr_node_spec.specs.Table.{is_other_router, sends_down, sends_rows, sends_first, sends, rows_declared, rows_undeclared, rows_left, row, key_of, able_kind, after}
use Rattle.zr_law_settled.proofs.Answering.{request_silent, reply_silent, final_silent, behind_ends}
use Rattle.zr_law_settled.proofs.Spreading.{Name, Note, best}
use Rattle.zr_law_settled.proofs.Silent.{silent_if, push_silent}
use Rattle.zr_law_settled.proofs.Values.{brings_none, Brought, brings}
use Rattle.zr_law_settled.proofs.Bringing.{up_silent, down_silent}

-- ---- lanes

-- whether a note brings a change
abbrev pub is_change : Brought → Bool
is_change (inl c) = true
is_change (inr ds) = false

-- Each change of the log of z on the way comes at most one beyond what is known of it, or came before it on the way.
abbrev pub Gapless : Name → ℕ → List (Note Brought) → Type 0
Gapless z p [] = Unit {0}
Gapless z p (m ∷ ms) =
    (is_named m.source z ≡ true → is_change m.known.value ≡ true → m.known.number ≤ p + 1) × Gapless z (cond (is_named m.source z) (max p m.known.number) p) ms

pub gapless_later : (z : Name) (ms : List (Note Brought)) (p q : ℕ) → p ≤ q → Gapless z p ms → Gapless z q ms
gapless_later z [] p q le h = tt
gapless_later z (m ∷ ms) p q le h =
    ((λ e c. let before = h.0 e c in omega (arith, before, le)), gapless_later z ms (cond (is_named m.source z) (max p m.known.number) p) (cond (is_named m.source z) (max q m.known.number) q) (by (is_named m.source z)) h.1)
  where
    by : (t : Bool) → cond t (max p m.known.number) p ≤ cond t (max q m.known.number) q
    by true = omega (arith, le)
    by false = omega (arith, le)

pub gapless_more : (z : Name) (ms ss : List (Note Brought)) (p : ℕ) → Gapless z p ms → Gapless z (max p (best z ms)) ss → Gapless z p (ms ++ ss)
gapless_more z [] ss p h k = gapless_later z ss (max p 0) p (omega arith) k
gapless_more z (m ∷ ms) ss p h k = (
  h.0,
  gapless_more z ms ss (cond (is_named m.source z) (max p m.known.number) p) h.1 (gapless_later z ss (max p (max (cond (is_named m.source z) m.known.number 0) (best z ms)))
      (max (cond (is_named m.source z) (max p m.known.number) p) (best z ms)) (by (is_named m.source z)) k),
)
  where
    by : (t : Bool) → max p (max (cond t m.known.number 0) (best z ms)) ≤ max (cond t (max p m.known.number) p) (best z ms)
    by true = omega arith
    by false = omega arith

-- a change that is first on a gapless way is no gap
pub first_fits : (n : NodeState) (source : Name) (number : ℕ) (c : Change) (ms : List (Note Brought)) →
    Gapless source (position n.known source) (record { source = source; known = record { number = number; value = inl c } } ∷ ms) → is_gap n.known source number ≡ false
first_fits n source number c ms h = by (is_named source n.known.me) (nat_lt (position n.known source + 1) number) refl
  where
    by : (s t : Bool) → nat_lt (position n.known source + 1) number ≡ t → (not s && t) ≡ false
    by true t e = refl
    by false false e = refl
    by false true e =
        let lt = ltb-true (position n.known source + 1) number e in
        let le = h.0 (same_refl source) refl in
        absurd (omega (arith, lt, le))

-- ---- what is sent

-- changes of one log, one after the other
steps_climb : (a : Name) (cs : List Change) (p : ℕ) (z : Name) (t : ℕ) → (is_named a z ≡ true → p ≤ t) → Gapless z t (flat_map brings (steps a p cs))
steps_climb a [] p z t h = tt
steps_climb a (c ∷ cs) p z t h =
    ((λ e k. let le = h e in omega (arith, le)), steps_climb a cs (p + 1) z (cond (is_named a z) (max t (p + 1)) t) (by (is_named a z) refl))
  where
    by : (s : Bool) → is_named a z ≡ s → s ≡ true → p + 1 ≤ cond s (max t (p + 1)) t
    by true e k = omega arith
    by false e k = absurd (false≢true k)

-- sets follow on anything
module _ (before after : List RecordState) (me name : Name) (z : Name) where
  snaps_climb : (logs : List Log) (t : ℕ) → Gapless z t (flat_map brings (flat_map (λ log. cond (is_new_child before after me log.source name) (snapshot log ∷ []) []) logs))
  snaps_climb [] t = tt
  snaps_climb (log ∷ logs) t =
      subst (λ ms. Gapless z t ms) (sym (flat_map-append brings (cond (is_new_child before after me log.source name) (snapshot log ∷ []) []) (flat_map (λ log. cond (is_new_child before after me log.source name) (snapshot log ∷ []) []) logs)))
      (gapless_more z (flat_map brings (cond (is_new_child before after me log.source name) (snapshot log ∷ []) [])) (flat_map brings (flat_map (λ log. cond (is_new_child before after me log.source name) (snapshot log ∷ []) []) logs)) t
      (one (is_new_child before after me log.source name)) (snaps_climb logs (max t (best z (flat_map brings (cond (is_new_child before after me log.source name) (snapshot log ∷ []) []))))))
    where
      one : (b : Bool) → Gapless z t (flat_map brings (cond b (snapshot log ∷ []) []))
      one true = ((λ e c. absurd (false≢true c)), tt)
      one false = tt

snapshots_climb : (t : TableState) (before : List RecordState) (to : ℕ) (z : Name) (top : ℕ) → Gapless z top (flat_map brings (sends_snapshots t before to))
snapshots_climb t before to z top = by (link_at t.links to)
  where
    if_router : (b : Bool) (name : Name) → Gapless z top (flat_map brings (cond b (snapshots_for t before name) []))
    if_router true name = snaps_climb before t.base.records t.base.me name z t.known.logs top
    if_router false name = tt

    by : (o : Option LinkPeer) → Gapless z top (flat_map brings (option_map_or (λ l. snapshots_on t before l) o []))
    by None = tt
    by (Some l) = if_router (is_router l.peer.role) l.peer.id

module _ (n : NodeState) (z : Name) (top : ℕ) where
  none_climb : (msgs : List Msg) → flat_map brings msgs ≡ [] → Gapless z top (flat_map brings msgs)
  none_climb msgs e = subst (λ ms. Gapless z top ms) (sym e) tt

  -- A child knows all that this router knows of the log of z, or is being told.
  module _ (to : LinkNo) (child : is_to_child (tables n) z to.0 ≡ true → position n.known z ≤ top) where
    rows_climb : (rows : List Row) → Gapless z top (flat_map brings (sends_rows n rows to.0))
    rows_climb rows = by (is_to_child (tables n) n.base.me to.0) refl
      where
        by : (t : Bool) → is_to_child (tables n) n.base.me to.0 ≡ t → Gapless z top (flat_map brings (cond t (steps n.base.me (position n.known n.base.me) (changes n.rows rows)) []))
        by false e = tt
        by true e = steps_climb n.base.me (changes n.rows rows) (position n.known n.base.me) z top (λ s.
            let me_is : n.base.me ≡ z = same_is n.base.me z s in
            let le = child (ap (λ q. is_to_child (tables n) q to.0) (sym me_is) ∙ e) in
            let same : position n.known n.base.me ≡ position n.known z = ap (position n.known) me_is in
            omega (arith, le, same))

    step_climbs : (from : ℕ) (source : Name) (number : ℕ) (added : Bool) (decl : Decl) →
        Gapless z top (flat_map brings (cond (leads_to_router n.links from && (is_next n.known source number && is_to_child (tables n) source to.0)) (Step source number added decl ∷ []) []))
    step_climbs from source number added decl = by (leads_to_router n.links from) (is_next n.known source number) refl (is_to_child (tables n) source to.0) refl
      where
        by : (a b : Bool) → is_next n.known source number ≡ b → (c : Bool) → is_to_child (tables n) source to.0 ≡ c → Gapless z top (flat_map brings (cond (a && (b && c)) (Step source number added decl ∷ []) []))
        by true true eb true ec = (
          (λ s k. let source_is : source ≡ z = same_is source z s in
              let le = child (ap (λ q. is_to_child (tables n) q to.0) (sym source_is) ∙ ec) in
              let same : position n.known source ≡ position n.known z = ap (position n.known) source_is in
              let next : number ≡ position n.known source + 1 = eqb-true number (position n.known source + 1) (and_parts (not (is_named source n.known.me)) (number == position n.known source + 1) eb).1 in
              omega (arith, le, same, next)),
          tt,
        )
        by true true eb false ec = tt
        by true false eb c ec = tt
        by false b eb c ec = tt

    snap_climbs : (from : ℕ) (source : Name) (number : ℕ) (ds : List Decl) →
        Gapless z top (flat_map brings (cond (leads_to_router n.links from && (log.is_newer n.known source number && is_to_child (tables n) source to.0)) (Snap source number ds ∷ []) []))
    snap_climbs from source number ds = by (leads_to_router n.links from && (log.is_newer n.known source number && is_to_child (tables n) source to.0))
      where
        by : (t : Bool) → Gapless z top (flat_map brings (cond t (Snap source number ds ∷ []) []))
        by true = ((λ e c. absurd (false≢true c)), tt)
        by false = tt

    from_climbs : (link : LinkNo) (msg : Msg) → Gapless z top (flat_map brings (sends_first n (From link msg) to))
    from_climbs link (Sub id key) = rows_climb (rows_declared n link.0 (row link.0 id kind.Sub key))
    from_climbs link (Unsub id) = rows_climb (rows_undeclared n link.0 (key_of link.0 id kind.Sub))
    from_climbs link (Token id key) = rows_climb (rows_declared n link.0 (row link.0 id kind.Token key))
    from_climbs link (Untoken id) = rows_climb (rows_undeclared n link.0 (key_of link.0 id kind.Token))
    from_climbs link (Able id key complete) = rows_climb (rows_declared n link.0 (row link.0 id (able_kind complete) key))
    from_climbs link (Unable id) = rows_climb (rows_undeclared n link.0 (key_of link.0 id kind.Able))
    from_climbs link (Interest id current future kinds key aggregate) = tt
    from_climbs link (EndInterest id) = tt
    from_climbs link (ToldSub id key interest) = tt
    from_climbs link (ToldToken id key interest) = tt
    from_climbs link (ToldAble id key complete interest) = tt
    from_climbs link (ToldUnsub id) = tt
    from_climbs link (ToldUntoken id) = tt
    from_climbs link (ToldUnable id) = tt
    from_climbs link (ToldEnd interest) = tt
    from_climbs link (Push tree content) =
        none_climb (sends_first n (From link (Push tree content)) to) (push_silent brings (tables n) link.0 content (λ tree. refl) (tree_of (tables n) (link_at n.links link.0) tree) to.0)
    from_climbs link (Request tree id target content) =
        none_climb (sends_first n (From link (Request tree id target content)) to) (request_silent brings brings_none (tables n) n.pending link.0 tree id target content to.0)
    from_climbs link (Response id content) = none_climb (sends_first n (From link (Response id content)) to) (reply_silent brings brings_none n.pending n.held link.0 id content to.0)
    from_climbs link (Final id extras) = none_climb (sends_first n (From link (Final id extras)) to) (final_silent brings brings_none n.pending n.held link.0 id extras to.0)
    from_climbs link (State r) =
        none_climb (sends_first n (From link (State r)) to) (silent_if brings (leads_to_router n.links link.0 && is_newer n.base r && is_other_router n link.0 to.0) (State r ∷ []) refl)
    from_climbs link (Step source number added decl) = step_climbs link.0 source number added decl
    from_climbs link (Snap source number ds) = snap_climbs link.0 source number ds

    first_climbs : (event : Event) → Gapless z top (flat_map brings (sends_first n event to))
    first_climbs (Up link peer) = none_climb (sends_first n (Up link peer) to) (up_silent n link.0 peer peer.role to.0)
    first_climbs (Down link) =
        subst (λ ms. Gapless z top ms) (sym (behind_ends brings brings_none n.pending n.held link.0 to.0 (sends_down n link.0 (link_at n.links link.0) to.0 ++ sends_rows n (rows_left n link.0) to.0)
        ∙ flat_map-append brings (sends_down n link.0 (link_at n.links link.0) to.0) (sends_rows n (rows_left n link.0) to.0)
        ∙ ap (λ q. q ++ flat_map brings (sends_rows n (rows_left n link.0) to.0)) (down_silent n link.0 (link_at n.links link.0) to.0))) (rows_climb (rows_left n link.0))
    first_climbs (From link msg) = from_climbs link msg

    -- what an event sends has no gap behind what a child knows or is being told
    pub sends_climb : (event : Event) → Gapless z top (flat_map brings (sends n event to))
    sends_climb event =
        subst (λ ms. Gapless z top ms) (sym (flat_map-append brings (sends_first n event to) (sends_snapshots (tables (after n event)) n.base.records to.0)))
        (gapless_more z (flat_map brings (sends_first n event to)) (flat_map brings (sends_snapshots (tables (after n event)) n.base.records to.0)) top (first_climbs event)
        (snapshots_climb (tables (after n event)) n.base.records to.0 z (max top (best z (flat_map brings (sends_first n event to))))))
