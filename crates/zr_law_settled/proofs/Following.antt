-- What one event does to what a router knows of logs (`Follows`): positions grow, what is sent is known, and children are told what is new.
use Rattle.std.proofs.Common.{◌≡◌, ◌≤◌, ℕ, max, Bool, true, false, cond, List, [], ◌∷◌, ◌++◌, map, Option, Some, None, ◌⊎◌, inl, inr, refl, ap, ◌∙◌, subst, arith}
use Rattle.std.specs.Prelude.{◌&&◌, ◌==◌}
use Rattle.std.specs.Option.{option_map_or}
use Rattle.zr_id.specs.Zid.{is_named}
use Rattle.zr_id.specs.Record.{RecordState}
use Rattle.zr_id.specs.declared.link.LinkNo.{LinkNo}
use Rattle.zr_graph.specs.Record.{record_of}
use Rattle.zr_graph.specs.Base.{BaseState, is_newer}
use Rattle.zr_msg.specs.declared.msg.Msg.{Msg}
use Rattle.zr_msg.specs.declared.msg.Msg.TheVariants.{Sub, Unsub, Token, Untoken, Able, Unable, Interest, EndInterest, ToldSub, ToldAble, ToldUnsub, ToldToken, ToldUntoken, ToldUnable, ToldEnd, Push, Request, Response, Final, State, Step, Snap}
use Rattle.zr_msg.specs.declared.decl.Kind.TheVariants as kind
use Rattle.zr_msg.specs.declared.event.Event.{Event}
use Rattle.zr_msg.specs.declared.event.Event.TheVariants.{Up, Down, From}
use Rattle.zr_msg.specs.Peer.{PeerState}
use Rattle.zr_msg.specs.declared.peer.LinkPeer.{LinkPeer}
use Rattle.zr_msg.specs.declared.peer.Role.{Role}
use Rattle.zr_msg.specs.declared.peer.Role.TheVariants.{Client, Router}
use Rattle.zr_local.specs.Rows.{left}
use Rattle.zr_local.specs.declared.row.Row.{Row}
use Rattle.zr_log.specs.Known.{KnownState, position}
use Rattle.zr_log.specs.Known as log
use Rattle.zr_node_spec.specs.Tables.{link_at, is_router, leads_to_router, leads_to_client, is_to_child}
use Rattle.zr_node_spec.specs.Changes.{changes, after_changes, steps, sends_changes}
use Rattle.zr_node_spec.specs.Samples.{tree_of}
use Rattle.zr_node_spec.specs.State.{NodeState, tables}
use Rattle.zr_node_spec.specs.Table.{own_link, joined, parted, own_record, all_records, is_other_router, sends_own, sends_up, sends_parted, sends_down, sends_rows, sends_first, rows_declared, rows_undeclared, rows_left, with_rows, row, key_of, able_kind, known_step, known_snap, after}
use Rattle.zr_node_spec.proofs.Changes.{no_changes}
use Rattle.zr_law_settled.proofs.Answering.{request_silent, reply_silent, final_silent, behind_ends}
use Rattle.zr_law_settled.proofs.Spreading.{Name, best}
use Rattle.zr_law_settled.proofs.Silent.{silent_if, push_silent}
use Rattle.zr_law_settled.proofs.Positions.{no_places, placed, places_in, places, places-append, best_both, position_others}
use Rattle.zr_law_settled.proofs.Children.{child_by, IsTold, base_told, first_told, rows_grow, rows_le, rows_told, taken_grows, taken_le, taken_told, step_now, step_newer, snap_now, snap_newer}

-- what a router hears of logs at an event
abbrev pub heard_places : Event → List Msg
heard_places (Up link peer) = []
heard_places (Down link) = []
heard_places (From link msg) = msg ∷ []

-- What an event does: of other logs no more is known than was known or came; what is sent is known; and on a link to a router that is a child
-- then, and that was there before where something is new, all is told, or the router was a child before and nothing is new.
pub record Follows (n : NodeState) (event : Event) : Type 0 where
  pub grows : (z : Name) → position n.known z ≤ position (after n event).known z
  pub others : (z : Name) → is_named n.known.me z ≡ false → position (after n event).known z ≤ max (position n.known z) (best z (places (heard_places event)))
  pub le : (to : LinkNo) (z : Name) → best z (places (sends_first n event to)) ≤ position (after n event).known z
  pub told : (l : LinkPeer) → (link_at n.links l.link.0 ≡ Some l) ⊎ ((after n event).known ≡ n.known) → link_at (after n event).links l.link.0 ≡ Some l → is_router l.peer.role ≡ true → (z : Name) →
      child_by (after n event).base.records z (after n event).base.me l.peer.id ≡ true → IsTold n event l z

-- ---- records tell nothing of logs

records_silent : (rs : List RecordState) → places (map (λ r. State r) rs) ≡ []
records_silent [] = refl
records_silent (r ∷ rs) = records_silent rs

own_silent : (b : BaseState) → places (own_record b) ≡ []
own_silent b = by (record_of b.records b.me)
  where
    by : (o : Option RecordState) → places (option_map_or (λ r. State r ∷ []) o []) ≡ []
    by None = refl
    by (Some r) = refl

module _ (n : NodeState) where
  others_silent : (from : ℕ) (b : BaseState) (to : ℕ) → places (sends_own n from b to) ≡ []
  others_silent from b to = silent_if places_in (is_other_router n from to) (own_record b) (own_silent b)

  up_silent : (link : ℕ) (peer : PeerState) (role : Role) (to : ℕ) → places (sends_up n link peer role to) ≡ []
  up_silent link peer Client to = refl
  up_silent link peer Router to = by (to == link)
    where
      by : (t : Bool) → places (cond t (all_records (joined n.base (own_link peer))) (sends_own n link (joined n.base (own_link peer)) to)) ≡ []
      by true = records_silent (joined n.base (own_link peer)).records
      by false = others_silent link (joined n.base (own_link peer)) to

  parted_silent : (link : ℕ) (peer : PeerState) (role : Role) (to : ℕ) → places (sends_parted n link peer role to) ≡ []
  parted_silent link peer Client to = refl
  parted_silent link peer Router to = others_silent link (parted n.base peer.id) to

  down_silent : (link : ℕ) (o : Option LinkPeer) (to : ℕ) → places (sends_down n link o to) ≡ []
  down_silent link None to = refl
  down_silent link (Some l) to = parted_silent link l.peer l.peer.role to

  -- ---- what keeps all that is known

  none_le : (event : Event) → ((to : LinkNo) → places (sends_first n event to) ≡ []) → (to : LinkNo) (z : Name) → best z (places (sends_first n event to)) ≤ position (after n event).known z
  none_le event silent to z = let none : best z (places (sends_first n event to)) ≡ 0 = ap (best z) (silent to) in omega (arith, none)

  pub keeps : (event : Event) → (after n event).known ≡ n.known → ((to : LinkNo) → places (sends_first n event to) ≡ []) → Follows n event
  keeps event same silent = record {
    grows = λ z. let e : position (after n event).known z ≡ position n.known z = ap (λ k. position k z) same in omega (arith, e);
    others = λ z other. let e : position (after n event).known z ≡ position n.known z = ap (λ k. position k z) same in omega (arith, e);
    le = none_le event silent;
    told = λ l was at router z child. base_told n event z l (ap (λ k. position k z) same) at router child;
  }

  -- ---- what keeps the base

  -- at an event that keeps base and links, each child was one
  pub by_first : (event : Event) → (after n event).base ≡ n.base → ((l : LinkPeer) → link_at n.links l.link.0 ≡ Some l → is_router l.peer.role ≡ true → (z : Name) →
      child_by n.base.records z n.base.me l.peer.id ≡ true →
      (position (after n event).known z ≤ best z (places (sends_first n event l.link))) ⊎ (position (after n event).known z ≡ position n.known z)) →
      (l : LinkPeer) → (link_at n.links l.link.0 ≡ Some l) ⊎ ((after n event).known ≡ n.known) → link_at (after n event).links l.link.0 ≡ Some l → is_router l.peer.role ≡ true → (z : Name) →
      child_by (after n event).base.records z (after n event).base.me l.peer.id ≡ true → IsTold n event l z
  by_first event same first l (inr kept) at router z child = base_told n event z l (ap (λ k. position k z) kept) at router child
  by_first event same first l (inl was) at router z child = by (first l was router z (subst (λ (b : BaseState). child_by b.records z b.me l.peer.id ≡ true) same child))
    where
      by : (position (after n event).known z ≤ best z (places (sends_first n event l.link))) ⊎ (position (after n event).known z ≡ position n.known z) → IsTold n event l z
      by (inl le) = first_told n event z l le
      by (inr e) = base_told n event z l e at router child

  module _ (me : n.known.me ≡ n.base.me) where
    -- a client declares something or takes it back
    rows_follow : (link : LinkNo) (msg : Msg) (rows : List Row) → after n (From link msg) ≡ with_rows n rows → ((to : LinkNo) → sends_first n (From link msg) to ≡ sends_rows n rows to.0) → Follows n (From link msg)
    rows_follow link msg rows is sent = record {
      grows = λ z. let e = now z in omega (arith, e, rows_grow n me rows z);
      others = λ z other. let e = now z in let o : position (with_rows n rows).known z ≡ position n.known z = position_others n.known (changes n.rows rows) z other in omega (arith, e, o);
      le = λ to z. let e = now z in let s = first to z in omega (arith, e, s, rows_le n me rows to.0 z);
      told = by_first (From link msg) (ap (λ (q : NodeState). q.base) is) (λ l at router z child. by l z (rows_told n me rows l at router z child));
    }
      where
        now : (z : Name) → position (after n (From link msg)).known z ≡ position (with_rows n rows).known z
        now z = ap (λ (q : NodeState). position q.known z) is

        first : (to : LinkNo) (z : Name) → best z (places (sends_first n (From link msg) to)) ≡ best z (places (sends_rows n rows to.0))
        first to z = ap (λ ms. best z (places ms)) (sent to)

        by : (l : LinkPeer) (z : Name) → (position (with_rows n rows).known z ≤ best z (places (sends_rows n rows l.link.0))) ⊎ (position (with_rows n rows).known z ≡ position n.known z) →
            (position (after n (From link msg)).known z ≤ best z (places (sends_first n (From link msg) l.link))) ⊎ (position (after n (From link msg)).known z ≡ position n.known z)
        by l z (inl le) = inl (let e = now z in let s = first l.link z in omega (arith, e, s, le))
        by l z (inr same) = inr (now z ∙ same)

    -- a router tells a change or a snapshot
    taken_follow : (link : LinkNo) (msg : Msg) (source : Name) (number : ℕ) → places_in msg ≡ record { source = source; known = placed number } ∷ [] → (news : Bool) (k' : KnownState) →
        (after n (From link msg)).known ≡ k' → (after n (From link msg)).base ≡ n.base →
        ((z : Name) → position k' z ≡ cond (leads_to_router n.links link.0 && news) (cond (is_named source z) number (position n.known z)) (position n.known z)) →
        (news ≡ true → position n.known source ≤ number) →
        ((to : LinkNo) → sends_first n (From link msg) to ≡ cond (leads_to_router n.links link.0 && (news && is_to_child (tables n) source to.0)) (msg ∷ []) []) → Follows n (From link msg)
    taken_follow link msg source number says news k' is base now newer sent = record {
      grows = λ z. let e = known_is z in omega (arith, e, taken_grows n msg source number says leads news k' now newer z);
      others = λ z other. let e = known_is z in omega (arith, e, more z);
      le = λ to z. let e = known_is z in let s = first to z in omega (arith, e, s, taken_le n msg source number says leads news k' now newer to.0 z);
      told = by_first (From link msg) base (λ l at router z child. by l z (taken_told n msg source number says leads news k' now newer l at router z child));
    }
      where
        leads : Bool
        leads = leads_to_router n.links link.0

        known_is : (z : Name) → position (after n (From link msg)).known z ≡ position k' z
        known_is z = ap (λ k. position k z) is

        first : (to : LinkNo) (z : Name) → best z (places (sends_first n (From link msg) to)) ≡ best z (places (cond (leads_to_router n.links link.0 && (news && is_to_child (tables n) source to.0)) (msg ∷ []) []))
        first to z = ap (λ ms. best z (places ms)) (sent to)

        more : (z : Name) → position k' z ≤ max (position n.known z) (best z (places (msg ∷ [])))
        more z = at leads news (is_named source z) (ap (λ ns. best z (ns ++ [])) says) (now z)
          where
            at : (a b t : Bool) → best z (places (msg ∷ [])) ≡ max (cond t number 0) 0 → position k' z ≡ cond (a && b) (cond t number (position n.known z)) (position n.known z) →
                position k' z ≤ max (position n.known z) (best z (places (msg ∷ [])))
            at true true true one e = omega (arith, one, e)
            at true true false one e = omega (arith, e)
            at true false t one e = omega (arith, e)
            at false b t one e = omega (arith, e)

        by : (l : LinkPeer) (z : Name) → (position k' z ≤ best z (places (cond (leads_to_router n.links link.0 && (news && is_to_child (tables n) source l.link.0)) (msg ∷ []) []))) ⊎ (position k' z ≡ position n.known z) →
            (position (after n (From link msg)).known z ≤ best z (places (sends_first n (From link msg) l.link))) ⊎ (position (after n (From link msg)).known z ≡ position n.known z)
        by l z (inl le) = inl (let e = known_is z in let s = first l.link z in omega (arith, e, s, le))
        by l z (inr same) = inr (known_is z ∙ same)

    pub from_follows : (link : LinkNo) (msg : Msg) → Follows n (From link msg)
    from_follows link (Sub id key) = rows_follow link (Sub id key) (rows_declared n link.0 (row link.0 id kind.Sub key)) refl (λ to. refl)
    from_follows link (Unsub id) = rows_follow link (Unsub id) (rows_undeclared n link.0 (key_of link.0 id kind.Sub)) refl (λ to. refl)
    from_follows link (Token id key) = rows_follow link (Token id key) (rows_declared n link.0 (row link.0 id kind.Token key)) refl (λ to. refl)
    from_follows link (Untoken id) = rows_follow link (Untoken id) (rows_undeclared n link.0 (key_of link.0 id kind.Token)) refl (λ to. refl)
    from_follows link (Able id key complete) = rows_follow link (Able id key complete) (rows_declared n link.0 (row link.0 id (able_kind complete) key)) refl (λ to. refl)
    from_follows link (Unable id) = rows_follow link (Unable id) (rows_undeclared n link.0 (key_of link.0 id kind.Able)) refl (λ to. refl)
    from_follows link (Interest id current future kinds key aggregate) = keeps (From link (Interest id current future kinds key aggregate)) refl (λ to. refl)
    from_follows link (EndInterest id) = keeps (From link (EndInterest id)) refl (λ to. refl)
    from_follows link (ToldSub id key interest) = keeps (From link (ToldSub id key interest)) refl (λ to. refl)
    from_follows link (ToldToken id key interest) = keeps (From link (ToldToken id key interest)) refl (λ to. refl)
    from_follows link (ToldAble id key complete interest) = keeps (From link (ToldAble id key complete interest)) refl (λ to. refl)
    from_follows link (ToldUnsub id) = keeps (From link (ToldUnsub id)) refl (λ to. refl)
    from_follows link (ToldUntoken id) = keeps (From link (ToldUntoken id)) refl (λ to. refl)
    from_follows link (ToldUnable id) = keeps (From link (ToldUnable id)) refl (λ to. refl)
    from_follows link (ToldEnd interest) = keeps (From link (ToldEnd interest)) refl (λ to. refl)
    from_follows link (Push tree content) = keeps (From link (Push tree content)) refl (λ to. push_silent places_in (tables n) link.0 content (λ tree. refl) (tree_of (tables n) (link_at n.links link.0) tree) to.0)
    from_follows link (Request tree id target content) = keeps (From link (Request tree id target content)) refl (λ to. request_silent places_in no_places (tables n) n.pending link.0 tree id target content to.0)
    from_follows link (Response id content) = keeps (From link (Response id content)) refl (λ to. reply_silent places_in no_places n.pending n.held link.0 id content to.0)
    from_follows link (Final id extras) = keeps (From link (Final id extras)) refl (λ to. final_silent places_in no_places n.pending n.held link.0 id extras to.0)
    from_follows link (State r) = keeps (From link (State r)) refl (λ to. silent_if places_in (leads_to_router n.links link.0 && is_newer n.base r && is_other_router n link.0 to.0) (State r ∷ []) refl)
    from_follows link (Step source number added decl) =
        taken_follow link (Step source number added decl) source number refl (log.is_next n.known source number) (known_step n link.0 source number (record { added = added; decl = decl })) refl refl
        (step_now n link.0 source number (record { added = added; decl = decl })) (step_newer n link.0 source number (record { added = added; decl = decl })) (λ to. refl)
    from_follows link (Snap source number decls) =
        taken_follow link (Snap source number decls) source number refl (log.is_newer n.known source number) (known_snap n link.0 source number decls) refl refl
        (snap_now n link.0 source number decls) (snap_newer n link.0 source number decls) (λ to. refl)

    -- ---- a link goes down

    -- a client leaves, and the base stays
    pub client_leaves : (link : LinkNo) → (after n (Down link)).base ≡ n.base → Follows n (Down link)
    client_leaves link base = record {
      grows = λ z. rows_grow n me (rows_left n link.0) z;
      others = λ z other. let o : position (with_rows n (rows_left n link.0)).known z ≡ position n.known z = position_others n.known (changes n.rows (rows_left n link.0)) z other in omega (arith, o);
      le = λ to z. let e = first to z in omega (arith, e, rows_le n me (rows_left n link.0) to.0 z);
      told = by_first (Down link) base (λ l at router z child. by l z (rows_told n me (rows_left n link.0) l at router z child));
    }
      where
        first : (to : LinkNo) (z : Name) → best z (places (sends_first n (Down link) to)) ≡ best z (places (sends_rows n (rows_left n link.0) to.0))
        first to z =
            let behind : best z (places (sends_first n (Down link) to)) ≡ best z (places (sends_down n link.0 (link_at n.links link.0) to.0 ++ sends_rows n (rows_left n link.0) to.0)) =
            ap (best z) (behind_ends places_in no_places n.pending n.held link.0 to.0 (sends_down n link.0 (link_at n.links link.0) to.0 ++ sends_rows n (rows_left n link.0) to.0)) in
            let e = best_both z (sends_down n link.0 (link_at n.links link.0) to.0) (sends_rows n (rows_left n link.0) to.0) in
            let none : best z (places (sends_down n link.0 (link_at n.links link.0) to.0)) ≡ 0 = ap (best z) (down_silent link.0 (link_at n.links link.0) to.0) in
            omega (arith, behind, e, none)

        by : (l : LinkPeer) (z : Name) → (position (with_rows n (rows_left n link.0)).known z ≤ best z (places (sends_rows n (rows_left n link.0) l.link.0))) ⊎ (position (with_rows n (rows_left n link.0)).known z ≡ position n.known z) →
            (position (after n (Down link)).known z ≤ best z (places (sends_first n (Down link) l.link))) ⊎ (position (after n (Down link)).known z ≡ position n.known z)
        by l z (inl le) = inl (let s = first l.link z in omega (arith, s, le))
        by l z (inr same) = inr same

  -- a link to a router goes down
  pub router_leaves : (link : LinkNo) → leads_to_client n.links link.0 ≡ false → Follows n (Down link)
  router_leaves link no_client = keeps (Down link) same silent
    where
      rows_same : rows_left n link.0 ≡ n.rows
      rows_same = ap (λ t. cond t (left n.rows link.0) n.rows) no_client

      same : (after n (Down link)).known ≡ n.known
      same = ap (λ rows. after_changes n.known (changes n.rows rows)) rows_same ∙ ap (after_changes n.known) (no_changes n.rows)

      nothing : (t : Bool) → places (cond t (steps n.base.me (position n.known n.base.me) []) []) ≡ []
      nothing true = refl
      nothing false = refl

      silent : (to : LinkNo) → places (sends_first n (Down link) to) ≡ []
      silent to =
          behind_ends places_in no_places n.pending n.held link.0 to.0 (sends_down n link.0 (link_at n.links link.0) to.0 ++ sends_rows n (rows_left n link.0) to.0)
          ∙ places-append (sends_down n link.0 (link_at n.links link.0) to.0) (sends_rows n (rows_left n link.0) to.0)
          ∙ ap (λ z. z ++ places (sends_rows n (rows_left n link.0) to.0)) (down_silent link.0 (link_at n.links link.0) to.0)
          ∙ ap (λ rows. places (sends_rows n rows to.0)) rows_same
          ∙ ap (λ cs. places (sends_changes (tables n) cs to.0)) (no_changes n.rows)
          ∙ nothing (is_to_child (tables n) n.base.me to.0)

  pub up_follows : (link : LinkNo) (peer : PeerState) → Follows n (Up link peer)
  up_follows link peer = keeps (Up link peer) refl (λ to. up_silent link.0 peer peer.role to.0)
