-- A router hears of an event in a world of a script: what holds of logs holds of the world that the act leaves. An end comes up, a client comes,
-- an end goes down, and a router handles a message.
use Rattle.std.proofs.Common.{◌≡◌, ◌≤◌, ℕ, max, Bool, true, false, cond, not, List, [], ◌∷◌, ◌++◌, Option, Some, None, is_some, ◌⊎◌, inl, inr, refl, sym, ap, ◌∙◌, subst, append-nil, arith}
use Rattle.std.specs.Prelude.{◌&&◌}
use Rattle.std.specs.Option.{option_map_or}
use Rattle.std.proofs.lemmas.Bool.{false≢true, and_parts, and_from}
use Rattle.zr_id.specs.Zid.{is_named}
use Rattle.zr_id.specs.declared.link.LinkNo.{LinkNo}
use Rattle.zr_graph.proofs.Names.{same_is}
use Rattle.zr_lists.proofs.Finds.{In}
use Rattle.zr_msg.specs.declared.msg.Msg.{Msg}
use Rattle.zr_msg.specs.declared.event.Event.{Event}
use Rattle.zr_msg.specs.declared.event.Event.TheVariants.{Up, Down, From}
use Rattle.zr_msg.specs.Peer.{PeerState}
use Rattle.zr_msg.specs.declared.peer.LinkPeer.{LinkPeer}
use Rattle.zr_log.specs.Known.{AreInOrder, position}
use Rattle.zr_node_spec.specs.Tables.{is_link, link_at, link_to, is_router, leads_to_router, leads_to_client}
use Rattle.zr_node_spec.specs.Table.{after, refuses}
use Rattle.zr_node_spec.proofs.LinksStay.{links_from}
use Rattle.zr_world_spec.specs.World.{Tagged, RouterState, EndState, End, Ends, WorldState, with_ends, router_of, end_of, is_end, is_up, is_unbroken, with_end, with_wire, changed, lifted, lowered}
use Rattle.zr_world_spec.specs.Acts.{hearing, sending}
use Rattle.zr_world_spec.specs.Sound.{IsSound}
use Rattle.zr_world_spec.proofs.Keyed.{there}
use Rattle.zr_world_spec.proofs.Names.{read_after}
use Rattle.zr_world_spec.proofs.Ends.{ends, same_end, read_with_end, keep_with_end}
use Rattle.zr_world_spec.proofs.Links.{named_link, numbered_link, link_at_without}
use Rattle.zr_world_spec.proofs.Links as links
use Rattle.zr_world_spec.proofs.Nodes.{me_after}
use Rattle.zr_law_settled.proofs.Spreading.{Name, Known, Note, own, best, Spreads, drops_kept, best_append}
use Rattle.zr_law_settled.proofs.Links.{AreKnown, linked_to, is_at, leads_is}
use Rattle.zr_law_settled.proofs.Worlds.{there_in, way_of, feeds_of, Holds, router_heard, there_heard, up_heard, unbroken_heard, some_heard}
use Rattle.zr_law_settled.proofs.Quiet.{passes_there}
use Rattle.zr_law_settled.proofs.Moving.{up_at, unbroken_at, lifted_way}
use Rattle.zr_law_settled.proofs.Passing.{popped_way, keep_popped, handled_way, keep_emptied, emptied_part, emptied_same, emptied_up}
use Rattle.zr_law_settled.proofs.Changes.{links_known, other_end}
use Rattle.zr_law_settled.proofs.Keeping.{client_is, client_down_base}
use Rattle.zr_law_settled.proofs.Positions.{Place, places_in, places}
use Rattle.zr_law_settled.proofs.Children.{child_by}
use Rattle.zr_law_settled.proofs.Following.{heard_places, Follows, from_follows, client_leaves, router_leaves, up_follows}
use Rattle.zr_law_settled.proofs.Heard.{event_stays, heard_known}
use Rattle.zr_law_settled.proofs.Logs.{knows_logs, logs_of, log_lane, child_at, feeds_logs, none_made, LogsHold, IsFed, heard_spreads, logs_here}

-- A world that an act leaves once router a has heard of an event in a world, with other ends (`es`) but no other end of another router up.
pub record Becomes (w : WorldState) (es : Ends) (a : Name) (r : RouterState) (event : Event) (final : WorldState) : Type 0 where
  pub sound : IsSound final
  pub found : router_of final.routers a ≡ Some (hearing r event)
  pub there : (y : Name) → there_in final y ≡ there_in w y
  pub whole : (q : End) → is_unbroken final.ends q ≡ is_unbroken w.ends q
  pub some : (q : End) → is_some (end_of final.ends q) ≡ is_some (end_of es q)
  pub ups : (x y : Name) → is_named a x ≡ false → is_up final.ends (x, y) ≡ true → is_up w.ends (x, y) ≡ true
  pub routers : (x : Name) → is_named a x ≡ false → router_of final.routers x ≡ router_of w.routers x

-- what is first on a wire is no more than its router made
pub first_le : (w : WorldState) → LogsHold w → (a b : Name) (s : EndState) → end_of w.ends (a, b) ≡ Some s → (msg : Msg) (tag : ℕ) (xs : List Tagged) → s.wire ≡ record { msg = msg; tag = tag } ∷ xs →
    (z : Name) → best z (places (msg ∷ [])) ≤ own (log_lane w) z
first_le w l a b s at_end msg tag xs front z =
    let rest : List (Note Place) = way_of places_in (with_end w.ends (a, b) (with_wire s xs)) b a in
    let first : way_of places_in w.ends b a ≡ places_in msg ++ rest =
    popped_way places_in w.ends a b s at_end msg tag xs front b a ∙ ap (λ t. cond t (places_in msg) [] ++ rest) (ends.refl (a, b)) in
    let e : best z (way_of places_in w.ends b a) ≡ max (best z (places_in msg)) (best z rest) = ap (best z) first ∙ best_append z (places_in msg) rest in
    let alone : best z (places (msg ∷ [])) ≡ best z (places_in msg) = ap (best z) (append-nil (places_in msg)) in
    omega (arith, e, alone, l.spreads.way_le b a z, (l.spreads.fits b z).0)

module _ (w : WorldState) (h : Holds w) (l : LogsHold w) (a : Name) (r : RouterState) (found : router_of w.routers a ≡ Some r) (me : r.node.base.me ≡ a) where
  -- what a knows of another log is no more than its router made
  pub known_before : (z : Name) → position r.node.known z ≤ own (log_lane w) z
  known_before z = let e : (logs_of w a z).number ≡ position r.node.known z = ap (λ o. (knows_logs o z).number) found in omega (arith, e, (l.spreads.fits a z).0)

  module _ (event : Event) (tag : ℕ) (es : Ends) (ways : (x y : Name) → way_of places_in es x y ≡ way_of places_in w.ends x y) (final : WorldState) (b : Becomes w es a r event final)
      (follows : Follows r.node event) (heard_le : (z : Name) → best z (places (heard_places event)) ≤ own (log_lane w) z)
      (was : (k : LinkPeer) → link_at (after r.node event).links k.link.0 ≡ Some k → (link_at r.node.links k.link.0 ≡ Some k) ⊎ ((after r.node event).known ≡ r.node.known)) where
    me_then : (after r.node event).base.me ≡ a
    me_then = me_after r.node event ∙ me

    fed : (y z : Name) → feeds_logs final z a y ≡ true → IsFed w es a r event y z
    fed y z f =
        let parts = and_parts (feeds_of final z a y) (child_at (router_of final.routers a) z a y) f in
        let outer = and_parts (there_in final y) (is_up final.ends (a, y) && is_unbroken final.ends (a, y)) parts.0 in
        let both = and_parts (is_up final.ends (a, y)) (is_unbroken final.ends (a, y)) outer.1 in
        let k = there (link_to (after r.node event).links y) (b.sound.links a y (hearing r event) b.found ∙ both.0) in
        let at = numbered_link (after r.node event).links (b.sound.unique a (hearing r event) b.found) y k.0 k.1 in
        record {
          router = sym (b.there y) ∙ outer.0;
          whole = sym (b.whole (a, y)) ∙ both.1;
          child = ap (λ q. child_by (after r.node event).base.records z q y) me_then ∙ sym (ap (λ o. child_at o z a y) b.found) ∙ parts.1;
          some = sym (b.some (a, y)) ∙ passes_there (λ s. s.up) final.ends (a, y) both.0;
          link = k.0;
          linked = k.1;
          named = named_link (after r.node event).links y k.0 k.1;
          at = at;
          role = b.sound.roles a y (hearing r event) k.0 b.found k.1 ∙ outer.0;
          was = was k.0 at;
        }

    less : (x y z : Name) → is_named a x ≡ false → feeds_logs final z x y ≡ true → feeds_logs w z x y ≡ true
    less x y z other f =
        let parts = and_parts (feeds_of final z x y) (child_at (router_of final.routers x) z x y) f in
        let outer = and_parts (there_in final y) (is_up final.ends (x, y) && is_unbroken final.ends (x, y)) parts.0 in
        let both = and_parts (is_up final.ends (x, y)) (is_unbroken final.ends (x, y)) outer.1 in
        and_from (feeds_of w z x y) (child_at (router_of w.routers x) z x y)
        (and_from (there_in w y) (is_up w.ends (x, y) && is_unbroken w.ends (x, y)) (sym (b.there y) ∙ outer.0)
        (and_from (is_up w.ends (x, y)) (is_unbroken w.ends (x, y)) (b.ups x y other both.0) (sym (b.whole (x, y)) ∙ both.1)))
        (sym (ap (λ o. child_at o z x y) (b.routers x other)) ∙ parts.1)

    foreign : (z : Name) → is_named a z ≡ false → position (after r.node event).known z ≤ own (log_lane w) z
    foreign z other = omega (arith, follows.others z (ap (λ q. is_named q z) (l.own_name a r found) ∙ other), known_before z, heard_le z)

    pub spreads_then : Spreads none_made (feeds_logs final) (log_lane (sending (with_ends w es) a r event tag))
    spreads_then = heard_spreads w h l a r found event tag es ways follows ((event_stays r.node event).order (l.in_order a r found)) me_then foreign (feeds_logs final) fed less

    pub logs_then : Spreads none_made (feeds_logs final) (log_lane final) → LogsHold final
    logs_then s = record { spreads = s; in_order = λ x q e. order x q e (is_named a x) refl; own_name = λ x q e. name x q e (is_named a x) refl }
      where
        one : (x : Name) (q : RouterState) → router_of final.routers x ≡ Some q → is_named a x ≡ true → hearing r event ≡ q
        one x q e t = let same : Some (hearing r event) ≡ Some q = sym b.found ∙ ap (router_of final.routers) (same_is a x t) ∙ e in cc

        order : (x : Name) (q : RouterState) → router_of final.routers x ≡ Some q → (t : Bool) → is_named a x ≡ t → AreInOrder q.node.known
        order x q e true t = subst (λ (p : RouterState). AreInOrder p.node.known) (one x q e t) ((event_stays r.node event).order (l.in_order a r found))
        order x q e false t = l.in_order x q (sym (b.routers x t) ∙ e)

        name : (x : Name) (q : RouterState) → router_of final.routers x ≡ Some q → (t : Bool) → is_named a x ≡ t → q.node.known.me ≡ x
        name x q e true t = subst (λ (p : RouterState). p.node.known.me ≡ x) (one x q e t) ((event_stays r.node event).own_name ∙ l.own_name a r found ∙ same_is a x t)
        name x q e false t = l.own_name x q (sym (b.routers x t) ∙ e)

  -- ---- the routers once one has heard

  routers_then : (event : Event) (es : Ends) (tag : ℕ) (x : Name) → is_named a x ≡ false → router_of (sending (with_ends w es) a r event tag).routers x ≡ router_of w.routers x
  routers_then event es tag x other = read_after (λ o. o) w.routers a x r (hearing r event) found ∙ ap (λ b. cond b (Some (hearing r event)) (router_of w.routers x)) other

  -- ---- an end comes up

  pub logs_up : (b : Name) (s : EndState) → end_of w.ends (a, b) ≡ Some s → (link : LinkNo) (peer : PeerState) (tag : ℕ) → IsSound (sending (with_ends w (with_end w.ends (a, b) (lifted s))) a r (Up link peer) tag) →
      LogsHold (sending (with_ends w (with_end w.ends (a, b) (lifted s))) a r (Up link peer) tag)
  logs_up b s at_end link peer tag sound' =
      logs_then (Up link peer) tag es (lifted_way places_in w.ends a b s at_end) final becomes (up_follows r.node link peer) (λ z. omega arith) (λ k at. inr refl)
      (spreads_then (Up link peer) tag es (lifted_way places_in w.ends a b s at_end) final becomes (up_follows r.node link peer) (λ z. omega arith) (λ k at. inr refl))
    where
      es : Ends
      es = with_end w.ends (a, b) (lifted s)

      final : WorldState
      final = sending (with_ends w es) a r (Up link peer) tag

      becomes : Becomes w es a r (Up link peer) final
      becomes = record {
        sound = sound';
        found = router_heard (with_ends w es) a r found (Up link peer) tag;
        there = λ y. there_heard (with_ends w es) a r found (Up link peer) tag y;
        whole = λ q. unbroken_heard (with_ends w es) a r found (Up link peer) tag q ∙ keep_with_end w.ends (a, b) (lifted s) unbroken_at q s at_end refl;
        some = λ q. some_heard (with_ends w es) a r found (Up link peer) tag q;
        ups = λ x y other up. sym (up_heard (with_ends w es) a r found (Up link peer) tag (x, y) ∙ read_with_end w.ends (a, b) (lifted s) up_at (x, y) (ap is_some at_end)
            ∙ ap (λ t. cond t true (is_up w.ends (x, y))) (other_end a b x y other)) ∙ up;
        routers = λ x other. routers_then (Up link peer) es tag x other;
      }

  -- ---- a client's end is up, and its router hears of it

  pub logs_joined : (link : LinkNo) (peer : PeerState) (tag : ℕ) (final : WorldState) → final.routers ≡ (sending w a r (Up link peer) tag).routers → final.ends ≡ (sending w a r (Up link peer) tag).ends → IsSound final → LogsHold final
  logs_joined link peer tag final same_routers same_ends sound' =
      logs_then (Up link peer) tag w.ends (λ x y. refl) final becomes (up_follows r.node link peer) (λ z. omega arith) (λ k at. inr refl)
      (subst (λ (e : Ends). Spreads none_made (feeds_logs final) (record { table = λ x z. knows_logs (router_of final.routers x) z; way = way_of places_in e })) (sym same_ends)
      (subst (λ (rs : List (Name × RouterState)). Spreads none_made (feeds_logs final) (record { table = λ x z. knows_logs (router_of rs x) z; way = way_of places_in (sending w a r (Up link peer) tag).ends })) (sym same_routers)
      (spreads_then (Up link peer) tag w.ends (λ x y. refl) final becomes (up_follows r.node link peer) (λ z. omega arith) (λ k at. inr refl))))
    where
      becomes : Becomes w w.ends a r (Up link peer) final
      becomes = record {
        sound = sound';
        found = ap (λ rs. router_of rs a) same_routers ∙ router_heard w a r found (Up link peer) tag;
        there = λ y. ap (λ rs. is_some (router_of rs y)) same_routers ∙ there_heard w a r found (Up link peer) tag y;
        whole = λ q. ap (λ e. is_unbroken e q) same_ends ∙ unbroken_heard w a r found (Up link peer) tag q;
        some = λ q. ap (λ e. is_some (end_of e q)) same_ends ∙ some_heard w a r found (Up link peer) tag q;
        ups = λ x y other up. sym (ap (λ e. is_up e (x, y)) same_ends ∙ up_heard w a r found (Up link peer) tag (x, y)) ∙ up;
        routers = λ x other. ap (λ rs. router_of rs x) same_routers ∙ routers_then (Up link peer) w.ends tag x other;
      }

  -- ---- an end goes down

  pub logs_down : IsSound w → (b : Name) (k : LinkPeer) → link_to r.node.links b ≡ Some k → (tag : ℕ) →
      IsSound (with_ends (sending w a r (Down k.link) tag) (changed (sending w a r (Down k.link) tag).ends (a, b) lowered)) →
      LogsHold (with_ends (sending w a r (Down k.link) tag) (changed (sending w a r (Down k.link) tag).ends (a, b) lowered))
  logs_down sound b k linked tag sound' =
      logs_then (Down k.link) tag w.ends (λ x y. refl) final becomes follows (λ z. omega arith) was
      (drops_kept none_made (feeds_logs final) (feeds_logs final) (log_lane part) (log_lane final)
      (spreads_then (Down k.link) tag w.ends (λ x y. refl) final becomes follows (λ z. omega arith) was)
      (record { tables = λ x z. refl; part = emptied_part places_in part.ends a b; dropped = λ x y z f. (f, kept x y z f (is_end (a, b) (x, y)) refl) }))
    where
      part : WorldState
      part = sending w a r (Down k.link) tag

      final : WorldState
      final = with_ends part (changed part.ends (a, b) lowered)

      it : In k r.node.links × (k.peer.id ≡ b)
      it = linked_to r.node.links b k linked

      known_links : AreKnown (there_in w) r.node.links
      known_links = links_known w sound a r found

      up_is : (q : End) → is_up final.ends q ≡ cond (is_end (a, b) q) false (is_up w.ends q)
      up_is q = emptied_up part.ends a b q ∙ ap (λ t. cond (is_end (a, b) q) false t) (up_heard w a r found (Down k.link) tag q)

      becomes : Becomes w w.ends a r (Down k.link) final
      becomes = record {
        sound = sound';
        found = router_heard w a r found (Down k.link) tag;
        there = λ y. there_heard w a r found (Down k.link) tag y;
        whole = λ q. keep_emptied part.ends a b unbroken_at (λ s. refl) q ∙ unbroken_heard w a r found (Down k.link) tag q;
        some = λ q. keep_emptied part.ends a b is_some (λ s. refl) q ∙ some_heard w a r found (Down k.link) tag q;
        ups = λ x y other up. sym (up_is (x, y) ∙ ap (λ t. cond t false (is_up w.ends (x, y))) (other_end a b x y other)) ∙ up;
        routers = λ x other. routers_then (Down k.link) w.ends tag x other;
      }

      at : link_at r.node.links k.link.0 ≡ Some k
      at = is_at (there_in w) r.node.links known_links k it.0

      leads : leads_to_client r.node.links k.link.0 ≡ not (is_router k.peer.role)
      leads = ap (λ o. option_map_or (λ j. not (is_router j.peer.role)) o false) at

      follows : Follows r.node (Down k.link)
      follows = by (is_router k.peer.role) refl
        where
          by : (t : Bool) → is_router k.peer.role ≡ t → Follows r.node (Down k.link)
          by true e = router_leaves r.node k.link (leads ∙ ap not e)
          by false e = client_leaves r.node (l.own_name a r found ∙ sym me) k.link (client_down_base r.node k at (client_is k.peer.role e))

      was : (j : LinkPeer) → link_at (after r.node (Down k.link)).links j.link.0 ≡ Some j → (link_at r.node.links j.link.0 ≡ Some j) ⊎ ((after r.node (Down k.link)).known ≡ r.node.known)
      was j e = inl (stood (link_at r.node.links j.link.0) (sym (link_at_without r.node.links (sound.unique a r found) k.link.0 j.link.0) ∙ e))
        where
          stood : (o : Option LinkPeer) → links.kept (λ i. not (is_link k.link.0 i)) o ≡ Some j → o ≡ Some j
          stood None e = e
          stood (Some i) e = by (is_link k.link.0 i) e
            where
              by : (t : Bool) → cond (not t) (Some i) None ≡ Some j → Some i ≡ Some j
              by false e = e
              by true e = absurd (cc)

      kept : (x y z : Name) → feeds_logs final z x y ≡ true → (t : Bool) → is_end (a, b) (x, y) ≡ t → best z (way_of places_in part.ends x y) ≤ max (logs_of part y z).number (best z (way_of places_in final.ends x y))
      kept x y z f true e =
          let parts = and_parts (feeds_of final z x y) (child_at (router_of final.routers x) z x y) f in
          let outer = and_parts (there_in final y) (is_up final.ends (x, y) && is_unbroken final.ends (x, y)) parts.0 in
          let up = (and_parts (is_up final.ends (x, y)) (is_unbroken final.ends (x, y)) outer.1).0 in
          absurd (false≢true (sym (up_is (x, y) ∙ ap (λ t. cond t false (is_up w.ends (x, y))) e) ∙ up))
      kept x y z f false e = let same : best z (way_of places_in final.ends x y) ≡ best z (way_of places_in part.ends x y) = ap (best z) (emptied_same places_in part.ends a b x y e) in omega (arith, same)

  -- ---- a message is handled

  pub logs_handled : IsSound w → (b : Name) (k : LinkPeer) → link_to r.node.links b ≡ Some k → (s : EndState) → end_of w.ends (a, b) ≡ Some s → (msg : Msg) (tag : ℕ) (xs : List Tagged) →
      s.wire ≡ record { msg = msg; tag = tag } ∷ xs → refuses r.node (From k.link msg) ≡ None → IsSound (sending (with_ends w (with_end w.ends (a, b) (with_wire s xs))) a r (From k.link msg) tag) →
      LogsHold (sending (with_ends w (with_end w.ends (a, b) (with_wire s xs))) a r (From k.link msg) tag)
  logs_handled sound b k linked s at_end msg tag xs front taken sound' =
      logs_then (From k.link msg) tag w.ends (λ x y. refl) final becomes follows heard_le was
      (drops_kept none_made (feeds_logs final) (feeds_logs final) (log_lane still) (log_lane final)
      (spreads_then (From k.link msg) tag w.ends (λ x y. refl) final becomes follows heard_le was)
      (record {
        tables = λ x z. refl;
        part = λ x y. record { before = cond (is_end (a, b) (y, x)) (places_in msg) []; after = []; whole = way x y ∙ ap (λ z. cond (is_end (a, b) (y, x)) (places_in msg) [] ++ z) (sym (append-nil (way_of places_in final.ends x y))) };
        dropped = λ x y z f. (f, dropped x y z f);
      }))
    where
      es : Ends
      es = with_end w.ends (a, b) (with_wire s xs)

      -- the world where the message is still on the wire
      still : WorldState
      still = sending w a r (From k.link msg) tag

      final : WorldState
      final = sending (with_ends w es) a r (From k.link msg) tag

      it : In k r.node.links × (k.peer.id ≡ b)
      it = linked_to r.node.links b k linked

      becomes : Becomes w w.ends a r (From k.link msg) final
      becomes = record {
        sound = sound';
        found = router_heard (with_ends w es) a r found (From k.link msg) tag;
        there = λ y. there_heard (with_ends w es) a r found (From k.link msg) tag y;
        whole = λ q. unbroken_heard (with_ends w es) a r found (From k.link msg) tag q ∙ keep_popped w.ends a b s at_end msg tag xs unbroken_at refl q;
        some = λ q. some_heard (with_ends w es) a r found (From k.link msg) tag q ∙ keep_popped w.ends a b s at_end msg tag xs is_some refl q;
        ups = λ x y other up. sym (up_heard (with_ends w es) a r found (From k.link msg) tag (x, y) ∙ keep_popped w.ends a b s at_end msg tag xs up_at refl (x, y)) ∙ up;
        routers = λ x other. routers_then (From k.link msg) es tag x other;
      }

      follows : Follows r.node (From k.link msg)
      follows = from_follows r.node (l.own_name a r found ∙ sym me) k.link msg

      was : (j : LinkPeer) → link_at (after r.node (From k.link msg)).links j.link.0 ≡ Some j → (link_at r.node.links j.link.0 ≡ Some j) ⊎ ((after r.node (From k.link msg)).known ≡ r.node.known)
      was j e = inl (sym (ap (λ ls. link_at ls j.link.0) (links_from r.node k.link msg)) ∙ e)

      alone : (z : Name) → best z (places (msg ∷ [])) ≡ best z (places_in msg)
      alone z = ap (best z) (append-nil (places_in msg))

      heard_le : (z : Name) → best z (places (msg ∷ [])) ≤ own (log_lane w) z
      heard_le z = first_le w l a b s at_end msg tag xs front z

      way : (x y : Name) → way_of places_in still.ends x y ≡ cond (is_end (a, b) (y, x)) (places_in msg) [] ++ way_of places_in final.ends x y
      way x y = handled_way places_in w a r (From k.link msg) b s at_end msg tag xs front x y

      -- its receiver knows what a router told
      known_then : (z : Name) → there_in w b ≡ true → best z (places_in msg) ≤ (logs_of still a z).number
      known_then z router = by (is_named a z) refl
        where
          leads : leads_to_router r.node.links k.link.0 ≡ true
          leads = leads_is (there_in w) r.node.links (links_known w sound a r found) k it.0 ∙ ap (there_in w) it.1 ∙ router

          now : (logs_of still a z).number ≡ position (after r.node (From k.link msg)).known z
          now = ap (λ (m : Known Place). m.number) (logs_here w h l a r found (From k.link msg) tag w.ends (λ x y. refl) z)

          by : (t : Bool) → is_named a z ≡ t → best z (places_in msg) ≤ (logs_of still a z).number
          by false e = let o = alone z in omega (arith, now, o, heard_known r.node k.link leads msg taken z (ap (λ q. is_named q z) (l.own_name a r found) ∙ e))
          by true e =
              let mine : own (log_lane w) z ≡ position r.node.known z = ap (λ q. (logs_of w q z).number) (sym (same_is a z e)) ∙ ap (λ o. (knows_logs o z).number) found in
              let o = alone z in omega (arith, now, mine, o, heard_le z, follows.grows z)

      dropped : (x y z : Name) → feeds_logs final z x y ≡ true → best z (way_of places_in still.ends x y) ≤ max (logs_of still y z).number (best z (way_of places_in final.ends x y))
      dropped x y z f =
          let e : best z (way_of places_in still.ends x y) ≡ max (best z (cond (is_end (a, b) (y, x)) (places_in msg) [])) (best z (way_of places_in final.ends x y)) =
          ap (best z) (way x y) ∙ best_append z (cond (is_end (a, b) (y, x)) (places_in msg) []) (way_of places_in final.ends x y) in
          omega (arith, e, left (is_end (a, b) (y, x)) refl)
        where
          router : there_in w x ≡ true
          router =
              let parts = and_parts (feeds_of final z x y) (child_at (router_of final.routers x) z x y) f in
              let outer = and_parts (there_in final y) (is_up final.ends (x, y) && is_unbroken final.ends (x, y)) parts.0 in
              let up = (and_parts (is_up final.ends (x, y)) (is_unbroken final.ends (x, y)) outer.1).0 in
              sym (becomes.there x) ∙ sound'.routers x y (passes_there (λ q. q.up) final.ends (x, y) up)

          left : (t : Bool) → is_end (a, b) (y, x) ≡ t → best z (cond t (places_in msg) []) ≤ (logs_of still y z).number
          left false e = omega arith
          left true e = subst (λ (q : End). best z (places_in msg) ≤ (logs_of still q.0 z).number) (same_end (a, b) (y, x) e)
              (known_then z (ap (λ (q : End). there_in w q.1) (same_end (a, b) (y, x) e) ∙ router))
