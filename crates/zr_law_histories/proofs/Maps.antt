-- What a router keeps of what it told its clients, entry by entry (`replayed_maps_are_heard`).
use Rattle.std.proofs.Common.{◌≡◌, ℕ, Bool, true, false, cond, not, List, [], ◌∷◌, ◌++◌, Option, Some, None, is_some, refl, sym, ap, ◌∙◌, subst}
use Rattle.std.specs.Prelude.{◌==◌, ◌&&◌, ◌||◌, is_none}
use Rattle.std.specs.List.{fold, list_all}
use Rattle.std.specs.Option.{option_map_or}
use Rattle.std.proofs.lemmas.Bool.{false≢true, and_parts, eqb-true}
use Rattle.zr_id.specs.Zid.{is_named}
use Rattle.zr_id.specs.declared.link.LinkNo.{LinkNo}
use Rattle.zr_msg.specs.declared.event.Event.{Event}
use Rattle.zr_msg.specs.declared.event.Event.TheVariants.{Up, Down, From}
use Rattle.zr_msg.specs.declared.msg.Msg.{Msg}
use Rattle.zr_msg.specs.declared.msg.Msg.TheVariants.{Sub, Unsub, Token, Untoken, Able, Unable, Interest, EndInterest, ToldSub, ToldAble, ToldUnsub, ToldToken, ToldUntoken, ToldUnable, ToldEnd, Push, Request, Response, Final, State, Step, Snap}
use Rattle.zr_msg.specs.declared.peer.LinkPeer.{LinkPeer}
use Rattle.zr_node_spec.specs.Tables.{is_router, is_link, link_at, link_to, leads_to_client}
use Rattle.zr_node_spec.specs.State.{NodeState, new_link}
use Rattle.zr_node_spec.specs.Table.{after}
use Rattle.zr_node_spec.proofs.LinksStay.{links_from}
use Rattle.zr_told_spec.specs.Hub.{HubState, new_hub, hub_after, hub_sends, hub_refuses}
use Rattle.zr_told_spec.specs.Laws.{Agrees}
use Rattle.zr_told_spec.specs.Rows.{map_on}
use Rattle.zr_told_spec.specs.Told.{Heard, hear, heard}
use Rattle.zr_told_spec.proofs.Hubs.{start_agrees, heard_on, hub_keeps, hub_forgets}
use Rattle.zr_world_spec.specs.Sound.{AreUnique}
use Rattle.zr_world_spec.proofs.Links.{kept, unique_nothing, unique_with, unique_without, link_at_with, link_at_without}
use Rattle.zr_port.specs.declared.entry.Entry.{Entry}
use Rattle.zr_router_queue.specs.History.{may_come, has_parts, may_be_dropped, may_follow, is_legal_from, renews, brings_up}
use Rattle.zr_router_queue.specs.Tables.{Tables, new_tables, advanced, replay_from, is_among, is_droppable}
use Rattle.zr_router_queue.proofs.KeptReplays.{none_is}
use Rattle.zr_law_told.specs.Maps.{KeepsWhatIsHeard}
use Rattle.zr_law_histories.specs.Maps.{sends_not_left_out, sent_from, ReplayedMapsAreHeard}

-- ---- what is left out says nothing of declarations

sample_tells_nothing : (m : Msg) → is_droppable (m ∷ []) ≡ true → (t : Heard) → hear t m ≡ t
sample_tells_nothing (Push tree content) h t = refl
sample_tells_nothing (Sub id key) h t = absurd (false≢true h)
sample_tells_nothing (Unsub id) h t = absurd (false≢true h)
sample_tells_nothing (Token id key) h t = absurd (false≢true h)
sample_tells_nothing (Untoken id) h t = absurd (false≢true h)
sample_tells_nothing (Able id key complete) h t = absurd (false≢true h)
sample_tells_nothing (Unable id) h t = absurd (false≢true h)
sample_tells_nothing (Interest id current future kinds key aggregate) h t = absurd (false≢true h)
sample_tells_nothing (EndInterest id) h t = absurd (false≢true h)
sample_tells_nothing (ToldSub id key interest) h t = absurd (false≢true h)
sample_tells_nothing (ToldAble id key complete interest) h t = absurd (false≢true h)
sample_tells_nothing (ToldUnsub id) h t = absurd (false≢true h)
sample_tells_nothing (ToldToken id key interest) h t = absurd (false≢true h)
sample_tells_nothing (ToldUntoken id) h t = absurd (false≢true h)
sample_tells_nothing (ToldUnable id) h t = absurd (false≢true h)
sample_tells_nothing (ToldEnd interest) h t = absurd (false≢true h)
sample_tells_nothing (Request tree id target content) h t = absurd (false≢true h)
sample_tells_nothing (Response id content) h t = absurd (false≢true h)
sample_tells_nothing (Final id extras) h t = absurd (false≢true h)
sample_tells_nothing (State links) h t = absurd (false≢true h)
sample_tells_nothing (Step source number added decl) h t = absurd (false≢true h)
sample_tells_nothing (Snap source number decls) h t = absurd (false≢true h)

left_out_tells_nothing : (ms : List Msg) → is_droppable ms ≡ true → (t : Heard) → fold hear t ms ≡ t
left_out_tells_nothing [] h t = absurd (false≢true h)
left_out_tells_nothing (m ∷ []) h t = sample_tells_nothing m h t
left_out_tells_nothing (m ∷ n ∷ more) h t = absurd (false≢true h)

-- what holds of all links of a list holds of one that is among them
of_each : (test : LinkNo → Bool) (links : List LinkNo) (link : LinkNo) → list_all test links ≡ true → is_among links link ≡ true → test link ≡ true
of_each test [] link all among = absurd (false≢true among)
of_each test (l ∷ links) link all among = by (l.0 == link.0) refl among (of_each test links link parts.1)
  where
    parts : (test l ≡ true) × (list_all test links ≡ true)
    parts = and_parts (test l) (list_all test links) all

    by : (b : Bool) → (l.0 == link.0) ≡ b → (b || is_among links link) ≡ true → (is_among links link ≡ true → test link ≡ true) → test link ≡ true
    by true same k rest = ap (λ n. test (record { 0 = n })) (sym (eqb-true l.0 link.0 same)) ∙ parts.0
    by false other k rest = rest k

-- ---- one entry

-- the links of a router are unique, and it keeps what was heard
record Follows (hub : HubState) (sent : ℕ → List Msg) : Type 0 where
  pub unique : AreUnique hub.node.links
  pub keeps : KeepsWhatIsHeard hub sent

unique_then : (node : NodeState) (event : Event) → may_come node event ≡ true → AreUnique node.links → AreUnique (after node event).links
unique_then node (Up link peer) may unique =
    let parts = and_parts (is_none (link_at node.links link.0)) (is_none (link_to node.links peer.id) && not (is_named peer.id node.base.me)) may in
    let name = and_parts (is_none (link_to node.links peer.id)) (not (is_named peer.id node.base.me)) parts.1 in
    unique_with node.links (new_link link peer) unique (none_is (link_at node.links link.0) parts.0) (none_is (link_to node.links peer.id) name.0)
unique_then node (Down link) may unique = unique_without node.links unique link.0
unique_then node (From link msg) may unique = subst AreUnique (sym (links_from node link msg)) unique

abbrev leads : Option LinkPeer → Bool
leads o = option_map_or (λ l. not (is_router l.peer.role)) o false

-- a link that leads to a client, and was not brought up just now, has led there before
led_before : (node : NodeState) (event : Event) → may_come node event ≡ true → AreUnique node.links → (k : ℕ) → brings_up (record { 0 = k }) event ≡ false →
    leads_to_client (after node event).links k ≡ true → leads_to_client node.links k ≡ true
led_before node (Up link peer) may unique k apart there =
    let parts = and_parts (is_none (link_at node.links link.0)) (is_none (link_to node.links peer.id) && not (is_named peer.id node.base.me)) may in
    let name = and_parts (is_none (link_to node.links peer.id)) (not (is_named peer.id node.base.me)) parts.1 in
    sym (ap leads (link_at_with node.links (new_link link peer) unique (none_is (link_at node.links link.0) parts.0) (none_is (link_to node.links peer.id) name.0) k
    ∙ ap (λ b. cond b (Some (new_link link peer)) (link_at node.links k)) apart)) ∙ there
led_before node (Down link) may unique k apart there = by (link_at node.links k) (sym (ap leads (link_at_without node.links unique link.0 k)) ∙ there)
  where
    by : (o : Option LinkPeer) → leads (kept (λ l. not (is_link link.0 l)) o) ≡ true → leads o ≡ true
    by None h = absurd (false≢true h)
    by (Some l) h = one (not (is_link link.0 l)) h
      where
        one : (b : Bool) → leads (cond b (Some l) None) ≡ true → leads (Some l) ≡ true
        one true h = h
        one false h = absurd (false≢true h)
led_before node (From link msg) may unique k apart there = sym (ap (λ (ls : List LinkPeer). leads_to_client ls k) (links_from node link msg)) ∙ there

-- a link that is brought up led nowhere before
led_nowhere : (node : NodeState) (event : Event) → may_come node event ≡ true → (k : ℕ) → brings_up (record { 0 = k }) event ≡ true → leads_to_client node.links k ≡ false
led_nowhere node (Up link peer) may k same =
    let parts = and_parts (is_none (link_at node.links link.0)) (is_none (link_to node.links peer.id) && not (is_named peer.id node.base.me)) may in
    ap leads (ap (link_at node.links) (sym (eqb-true link.0 k same)) ∙ none_is (link_at node.links link.0) parts.0)
led_nowhere node (Down link) may k same = absurd (false≢true same)
led_nowhere node (From link msg) may k same = absurd (false≢true same)

-- what an entry leaves out on a link is a sample
left_out : (t : Tables) (e : Entry) (link : LinkNo) → may_follow t e ≡ true → is_among e.dropped link ≡ true → is_droppable (hub_sends t.hub e.event link) ≡ true
left_out t e link may among =
    let a = and_parts (may_come t.hub.node e.event) _ may in
    let b = and_parts (is_none (hub_refuses t.hub e.event)) _ a.1 in
    let c = and_parts (has_parts e.event (is_some e.outbox) (is_some e.reason)) _ b.1 in
    let d = and_parts (list_all (may_be_dropped t e) e.dropped) _ c.1 in
    (and_parts (is_droppable (hub_sends t.hub e.event link)) _ (of_each (may_be_dropped t e) e.dropped link d.0 among)).0

module _ (t : Tables) (e : Entry) (may : may_follow t e ≡ true) (sent : ℕ → List Msg) (f : Follows t.hub sent) where
  abbrev no : ℕ → LinkNo
  no k = record { 0 = k }

  abbrev sent_then : ℕ → List Msg
  sent_then k = cond (renews (no k) e) [] (sent k) ++ sends_not_left_out t.hub e (no k)

  comes : may_come t.hub.node e.event ≡ true
  comes = (and_parts (may_come t.hub.node e.event) _ may).0

  unique_after : AreUnique (after t.hub.node e.event).links
  unique_after = unique_then t.hub.node e.event comes f.unique

  -- as if nothing was left out
  heard_all : (k : ℕ) (u : Heard) → fold hear u (hub_sends t.hub e.event (no k)) ≡ fold hear u (sends_not_left_out t.hub e (no k))
  heard_all k u = by (is_among e.dropped (no k)) refl
    where
      by : (b : Bool) → is_among e.dropped (no k) ≡ b → fold hear u (hub_sends t.hub e.event (no k)) ≡ fold hear u (cond b [] (hub_sends t.hub e.event (no k)))
      by true among = left_out_tells_nothing (hub_sends t.hub e.event (no k)) (left_out t e (no k) may among) u
      by false among = refl

  -- what was kept before the entry is what was heard since the link came up
  kept_before : (k : ℕ) → leads_to_client (after t.hub.node e.event).links k ≡ true → Agrees (map_on t.hub.told k) (heard (cond (renews (no k) e) [] (sent k)))
  kept_before k there = by (renews (no k) e) refl
    where
      by : (b : Bool) → renews (no k) e ≡ b → Agrees (map_on t.hub.told k) (heard (cond b [] (sent k)))
      by true anew = subst (λ z. Agrees z (heard [])) (sym (f.keeps.nothing_else k (led_nowhere t.hub.node e.event comes k anew))) start_agrees
      by false on = f.keeps.clients k (led_before t.hub.node e.event comes f.unique k on there)

  clients_then : (k : ℕ) → leads_to_client (after t.hub.node e.event).links k ≡ true → Agrees (map_on (hub_after t.hub e.event).told k) (heard (sent_then k))
  clients_then k there =
      let before : List Msg = cond (renews (no k) e) [] (sent k) in
      subst (λ z. Agrees (map_on (hub_after t.hub e.event).told k) z) (heard_all k (heard before) ∙ sym (heard_on before (sends_not_left_out t.hub e (no k))))
      (hub_keeps t.hub e.event k (heard before) there (kept_before k there))

  follows_then : Follows (hub_after t.hub e.event) sent_then
  follows_then = record { unique = unique_after; keeps = record { clients = clients_then; nothing_else = λ k apart. hub_forgets t.hub e.event k unique_after.numbers apart } }

-- ---- all entries

maps_kept : (t : Tables) (es : List Entry) (sent : ℕ → List Msg) → is_legal_from t es ≡ true → Follows t.hub sent →
    KeepsWhatIsHeard (replay_from t es).hub (λ k. sent_from t.hub (sent k) es (record { 0 = k }))
maps_kept t [] sent legal f = f.keeps
maps_kept t (e ∷ es) sent legal f =
    let both = and_parts (may_follow t e) (is_legal_from (advanced t e) es) legal in
    maps_kept (advanced t e) es (sent_then t e both.0 sent f) both.1 (follows_then t e both.0 sent f)

first : (me : List ℕ) → Follows (new_hub me) (λ k. [])
first me = record { unique = unique_nothing; keeps = record { clients = λ k there. absurd (false≢true there); nothing_else = λ k apart. refl } }

pub replayed_maps_are_heard : ReplayedMapsAreHeard
replayed_maps_are_heard me history legal = maps_kept (new_tables me) history (λ k. []) legal (first me)
