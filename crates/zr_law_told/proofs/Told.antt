-- What routers have told their clients (`AreTold`): each router has told each client what the client wants, and what was sent to a client and what
-- waits for it leave just that. What the worlds after acts have of it stands here, and the acts one by one in `TellActs`.
use Rattle.std.proofs.Common.{◌≡◌, ℕ, Bool, true, false, cond, not, List, [], ◌++◌, Option, Some, None, is_some, refl, sym, ap, ◌∙◌, subst, append_assoc}
use Rattle.std.specs.Option.{option_map, option_map_or}
use Rattle.std.proofs.lemmas.Bool.{false≢true}
use Rattle.zr_id.specs.Zid.{is_named}
use Rattle.zr_graph.proofs.Names.{same_is}
use Rattle.zr_msg.specs.declared.event.Event.{Event}
use Rattle.zr_msg.specs.declared.msg.Msg.{Msg}
use Rattle.zr_msg.specs.declared.peer.LinkPeer.{LinkPeer}
use Rattle.zr_local.specs.Clients.{interests_on}
use Rattle.zr_node_spec.specs.Tables.{is_router, link_to, leads_to_client}
use Rattle.zr_node_spec.specs.State.{NodeState, tables}
use Rattle.zr_node_spec.specs.Table.{sends, after}
use Rattle.zr_told_spec.specs.Hub.{sends_told, hub_sends}
use Rattle.zr_told_spec.specs.Laws.{Agrees}
use Rattle.zr_told_spec.specs.Rows.{Maps, map_on, others, IsAsWanted}
use Rattle.zr_told_spec.specs.Told.{ToldMap, heard as leave}
use Rattle.zr_told_spec.proofs.Hubs.{heard_on, hub_keeps, hub_is_as_wanted, hub_forgets}
use Rattle.zr_script_spec.specs.declared.report.ReportLine.{ReportLine}
use Rattle.zr_world_spec.specs.World.{RouterState, EndState, ClientState, Ends, WorldState, with_ends, router_of, client_of, end_of, new_router, is_taken}
use Rattle.zr_world_spec.specs.Acts.{hub_of, sends_to, told_to, having_told, all_queued, heard}
use Rattle.zr_world_spec.specs.Sound.{AreUnique, IsSound}
use Rattle.zr_world_spec.proofs.Names.{read_after, read_kept}
use Rattle.zr_world_spec.proofs.Ends.{with_waiting, with_sent, waiting_is, all_queued_is}
use Rattle.zr_world_spec.proofs.Links.{numbered_link}
use Rattle.zr_law_settled.proofs.Spreading.{Name}
use Rattle.zr_law_settled.proofs.Worlds.{queue_at}
use Rattle.zr_law_settled.proofs.ClientRows.{ClientsHold}
use Rattle.zr_law_declared.proofs.Hearing.{heard_router}
use Rattle.zr_law_told.proofs.Readings.{told_of, msgs_in, waits, told_by, msgs_more, SameHomes, home_was, same_taken, either_router}

-- ---- the invariant

-- A router has told each client what the client wants, as far as it knows, and nothing on other links.
pub record Informs (node : NodeState) (told : Maps) : Type 0 where
  pub wanted : (k : ℕ) → leads_to_client node.links k ≡ true → IsAsWanted (others (tables node) k) (interests_on node.clients k) (map_on told k)
  pub forgotten : (k : ℕ) → leads_to_client node.links k ≡ false → map_on told k ≡ []

-- Nothing was sent under a name that is free; and of a client that its router has a link to, what it was sent and what waits for it leave what it was
-- told.
pub record AreTold (w : WorldState) (report : List ReportLine) : Type 0 where
  pub routers : (x : Name) (r : RouterState) → router_of w.routers x ≡ Some r → Informs r.node r.told
  pub fresh : (c : Name) → is_taken w c ≡ false → told_by report c ≡ []
  pub agrees : (c : Name) (s : ClientState) → client_of w.clients c ≡ Some s → (m : ToldMap) → told_of (router_of w.routers s.router) c ≡ Some m →
      Agrees m (leave (told_by report c ++ waits w.ends s.router c))

-- ---- routers

pub new_informs : (id : Name) → Informs (new_router id).node (new_router id).told
new_informs id = record { wanted = λ k e. absurd (false≢true e); forgotten = λ k e. refl }

pub event_informs : (r : RouterState) (event : Event) → AreUnique (after r.node event).links → Informs (having_told r event).node (having_told r event).told
event_informs r event unique = record { wanted = hub_is_as_wanted (hub_of r) event; forgotten = λ k e. hub_forgets (hub_of r) event k unique.numbers e }

-- ---- what an event tells

module _ (r : RouterState) (event : Event) (c : Name) (l : LinkPeer) (to : link_to (after r.node event).links c ≡ Some l) (leads : leads_to_client (after r.node event).links l.link.0 ≡ true) where
  sent_is : sends_to r.node event c ++ told_to r event c ≡ hub_sends (hub_of r) event l.link
  sent_is = ap (λ (o : Option LinkPeer).
      option_map_or (λ k. sends r.node event k.link) o [] ++ option_map_or (λ k. sends_told (tables (after r.node event)) (map_on r.told k.link.0) event k.link.0) o []) to

  -- what was sent before, and then what the event sends to the client
  pub event_agrees : (ms : List Msg) → Agrees (map_on r.told l.link.0) (leave ms) → Agrees (map_on (having_told r event).told l.link.0) (leave (ms ++ (sends_to r.node event c ++ told_to r event c)))
  event_agrees ms h =
      subst (Agrees (map_on (having_told r event).told l.link.0)) (sym (ap (λ z. leave (ms ++ z)) sent_is ∙ heard_on ms (hub_sends (hub_of r) event l.link)))
      (hub_keeps (hub_of r) event l.link.0 (leave ms) leads h)

-- ---- where nothing is told

-- what is read of a client's end and of its router stays
pub record Stays (w v : WorldState) (x c : Name) : Type 0 where
  pub told : told_of (router_of v.routers x) c ≡ told_of (router_of w.routers x) c
  pub waiting : waits v.ends x c ≡ waits w.ends x c

module _ (w : WorldState) (report : List ReportLine) (t : AreTold w report) where
  pub still : (v : WorldState) (more : List ReportLine) → ((x : Name) (r : RouterState) → router_of v.routers x ≡ Some r → Informs r.node r.told) → ((c : Name) → is_taken v c ≡ false → is_taken w c ≡ false) →
      ((c : Name) → told_by more c ≡ told_by report c) → SameHomes w.clients v.clients →
      ((c : Name) (s : ClientState) → client_of w.clients c ≡ Some s → (m : ToldMap) → told_of (router_of v.routers s.router) c ≡ Some m → Stays w v s.router c) → AreTold v more
  still v more routers taken said homes each = record {
    routers = routers;
    fresh = λ c free. said c ∙ t.fresh c (taken c free);
    agrees = λ c q client m is.
        let s = home_was w.clients v.clients homes c q client in
        subst (λ (x : Name). told_of (router_of v.routers x) c ≡ Some m → Agrees m (leave (told_by more c ++ waits v.ends x c))) s.2
        (λ e.
        let k = each c s.0 s.1 m e in
        subst (λ ms. Agrees m (leave ms)) (sym (ap (λ z. z ++ waits v.ends s.0.router c) (said c) ∙ ap (λ z. told_by report c ++ z) k.waiting)) (t.agrees c s.0 s.1 m (sym k.told ∙ e)))
        is;
  }

  -- ---- a router hears of an event

  module _ (sound : IsSound w) (h : ClientsHold w) (a : Name) (r : RouterState) (found : router_of w.routers a ≡ Some r) (event : Event) (tag : ℕ) (es : Ends) (unique : AreUnique (after r.node event).links) where
    abbrev pub then : WorldState
    then = heard (with_ends w es) a r event tag

    pub told_then : (x c : Name) → told_of (router_of then.routers x) c ≡ cond (is_named a x) (told_of (Some (having_told r event)) c) (told_of (router_of w.routers x) c)
    told_then x c = heard_router (λ o. told_of o c) w.routers a x r event ∙ read_after (λ o. told_of o c) w.routers a x r (having_told r event) found

    pub waits_then : (x c : Name) → is_some (end_of es (x, c)) ≡ true →
        waits then.ends x c ≡ cond (is_named a x) (waits es x c ++ (sends_to r.node event c ++ told_to r event c)) (waits es x c)
    waits_then x c some =
        ap (λ o. msgs_in (queue_at o)) (waiting_is (all_queued es a r.node event tag) a (told_to r event) tag (x, c)
        ∙ ap (λ o. cond (is_named a x) (option_map more_told o) o) (all_queued_is es a r.node event tag (x, c)))
        ∙ by (is_named a x) (end_of es (x, c)) some
      where
        more_sent : EndState → EndState
        more_sent s = with_sent es a r.node event tag c s

        more_told : EndState → EndState
        more_told s = with_waiting (all_queued es a r.node event tag) a (told_to r event) tag c s

        by : (b : Bool) (o : Option EndState) → is_some o ≡ true →
            msgs_in (queue_at (cond b (option_map more_told (cond b (option_map more_sent o) o)) (cond b (option_map more_sent o) o)))
            ≡ cond b (msgs_in (queue_at o) ++ (sends_to r.node event c ++ told_to r event c)) (msgs_in (queue_at o))
        by false o k = refl
        by true None k = absurd (false≢true k)
        by true (Some s) k = msgs_more s.queue (sends_to r.node event c) (told_to r event c) tag

    -- what is read of the end of a client before the event, but for that it is told
    pub record Hears (c x : Name) : Type 0 where
      pub there : is_some (end_of es (x, c)) ≡ true
      pub links : link_to (after r.node event).links c ≡ link_to r.node.links c
      pub waiting : waits es x c ≡ waits w.ends x c

    pub hears_agrees : (c : Name) (s : ClientState) → client_of w.clients c ≡ Some s → Hears c s.router → (m : ToldMap) →
        told_of (router_of then.routers s.router) c ≡ Some m → Agrees m (leave (told_by report c ++ waits then.ends s.router c))
    hears_agrees c s client k m is = by (is_named a s.router) refl (sym (told_then s.router c) ∙ is) (waits_then s.router c k.there)
      where
        before : (z : ToldMap) → told_of (router_of w.routers s.router) c ≡ Some z → Agrees z (leave (told_by report c ++ waits es s.router c))
        before z e = subst (λ ms. Agrees z (leave (told_by report c ++ ms))) (sym k.waiting) (t.agrees c s client z e)

        told_here : is_named a s.router ≡ true → (o : Option LinkPeer) → link_to r.node.links c ≡ o → option_map (λ l. map_on (having_told r event).told l.link.0) o ≡ Some m →
            Agrees m (leave ((told_by report c ++ waits es s.router c) ++ (sends_to r.node event c ++ told_to r event c)))
        told_here home None e q = absurd (cc)
        told_here home (Some l) e q =
            let same : map_on (having_told r event).told l.link.0 ≡ m = cc in
            let here : router_of w.routers s.router ≡ Some r = ap (λ (x : Name). router_of w.routers x) (sym (same_is a s.router home)) ∙ found in
            let to : link_to (after r.node event).links c ≡ Some l = k.links ∙ e in
            let leads : leads_to_client (after r.node event).links l.link.0 ≡ true =
            ap (λ (o : Option LinkPeer). option_map_or (λ j. not (is_router j.peer.role)) o false) (numbered_link (after r.node event).links unique c l to)
            ∙ ap not (sound.roles a c r l found e ∙ h.apart c s client) in
            subst (λ z. Agrees z (leave ((told_by report c ++ waits es s.router c) ++ (sends_to r.node event c ++ told_to r event c)))) same
            (event_agrees r event c l to leads (told_by report c ++ waits es s.router c)
            (before (map_on r.told l.link.0) (ap (λ o. told_of o c) here ∙ ap (option_map (λ (j : LinkPeer). map_on r.told j.link.0)) e)))

        by : (b : Bool) → is_named a s.router ≡ b → cond b (told_of (Some (having_told r event)) c) (told_of (router_of w.routers s.router) c) ≡ Some m →
            waits then.ends s.router c ≡ cond b (waits es s.router c ++ (sends_to r.node event c ++ told_to r event c)) (waits es s.router c) → Agrees m (leave (told_by report c ++ waits then.ends s.router c))
        by false other e ws = subst (λ z. Agrees m (leave (told_by report c ++ z))) (sym ws) (before m e)
        by true home e ws =
            subst (λ z. Agrees m (leave z)) (append_assoc (told_by report c) (waits es s.router c) (sends_to r.node event c ++ told_to r event c) ∙ ap (λ z. told_by report c ++ z) (sym ws))
            (told_here home (link_to r.node.links c) refl (ap (option_map (λ (l : LinkPeer). map_on (having_told r event).told l.link.0)) (sym k.links) ∙ e))

    pub router_informs : (x : Name) (q : RouterState) → router_of then.routers x ≡ Some q → Informs q.node q.told
    router_informs x q is = either_router (λ q. Informs q.node q.told) (router_of w.routers x) q (having_told r event) (is_named a x) (t.routers x) (event_informs r event unique)
        (sym (heard_router (λ o. o) w.routers a x r event ∙ read_after (λ o. o) w.routers a x r (having_told r event) found) ∙ is)

    pub routers_then : (c : Name) → is_some (router_of then.routers c) ≡ is_some (router_of w.routers c)
    routers_then c = heard_router is_some w.routers a c r event ∙ read_kept is_some w.routers a c r (having_told r event) found refl

    -- no client comes
    pub heard_told : ((c : Name) (s : ClientState) → client_of w.clients c ≡ Some s → (m : ToldMap) → told_of (router_of then.routers s.router) c ≡ Some m → Hears c s.router) → AreTold then report
    heard_told each = record {
      routers = router_informs;
      fresh = λ c free. t.fresh c (sym (same_taken w then routers_then (λ c. refl) c) ∙ free);
      agrees = λ c s client m is. hears_agrees c s client (each c s client m is) m is;
    }
