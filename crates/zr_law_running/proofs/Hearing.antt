-- A router hears of an event: what holds between two events holds then, with what the router has queued for its clients yet to be sent (`hears`).
use Rattle.std.proofs.Common.{◌≡◌, ℕ, Bool, true, false, cond, not, List, [], ◌++◌, Option, Some, None, refl, sym, ap, ◌∙◌, subst}
use Rattle.std.specs.Prelude.{◌&&◌, is_some}
use Rattle.std.specs.List.{fold}
use Rattle.std.specs.Option.{option_map, option_map_or}
use Rattle.zr_id.specs.Zid.{is_named}
use Rattle.zr_msg.specs.declared.event.Event.{Event}
use Rattle.zr_msg.specs.declared.msg.Msg.{Msg}
use Rattle.zr_msg.specs.declared.peer.LinkPeer.{LinkPeer}
use Rattle.zr_node_spec.specs.State.{tables}
use Rattle.zr_node_spec.specs.Table.{sends, after}
use Rattle.zr_node_spec.specs.Tables.{link_to}
use Rattle.zr_told_spec.specs.Hub.{HubState, hub_after, hub_sends, sends_told}
use Rattle.zr_told_spec.specs.Rows.{map_on}
use Rattle.zr_script_spec.specs.declared.report.ReportLine.{ReportLine}
use Rattle.zr_world_spec.specs.World.{ClientState, RouterState, EndState, End, Clients, Ends, WorldState, router_of, client_of, with_router, end_of, is_up, queued, wire_at}
use Rattle.zr_world_spec.specs.Acts.{receiving, sends_to, told_to, hub_of, hearing, having_told, all_queued, heard as heard_in}
use Rattle.zr_world_spec.specs.Sound.{IsSound}
use Rattle.zr_lists.proofs.Options.{not_there}
use Rattle.zr_world_spec.proofs.Names.{names, same_name, value_after}
use Rattle.zr_world_spec.proofs.Ends.{waiting_is}
use Rattle.zr_law_running.specs.Runs.{LinkState, Several, queued_for, with_waits, heard}
use Rattle.zr_law_running.specs.Allowed.{is_among}
use Rattle.zr_law_running.proofs.Holding.{read, router_in, IsHome, Homes, is_client, Calm, Pending, both_queued, read_queued, wire_queued, home_queued}

-- what a router sends to a neighbour and then tells it is what the event queues for it
all_for : (r : RouterState) (event : Event) (q : List ℕ) → sends_to r.node event q ++ told_to r event q ≡ queued_for (hub_of r) event q
all_for r event q = by (link_to (after r.node event).links q)
  where
    by : (o : Option LinkPeer) → option_map_or (λ l. sends r.node event l.link) o []
        ++ option_map_or (λ l. sends_told (tables (after r.node event)) (map_on r.told l.link.0) event l.link.0) o []
        ≡ option_map_or (λ l. sends r.node event l.link ++ sends_told (tables (after r.node event)) (map_on r.told l.link.0) event l.link.0) o []
    by None = refl
    by (Some l) = refl

pub at_true : {X : Type 0} (b : Bool) (x y : X) → b ≡ true → cond b x y ≡ x
at_true b x y e = ap (λ z. cond z x y) e

pub at_false : {X : Type 0} (b : Bool) (x y : X) → b ≡ false → cond b x y ≡ y
at_false b x y e = ap (λ z. cond z x y) e

module _ (v : WorldState) (x : List ℕ) (r : RouterState) (event : Event) (tag : ℕ) where
  abbrev pub after_it : WorldState
  after_it = heard_in v x r event tag

  abbrev sent_only : Ends
  sent_only = all_queued v.ends x r.node event tag

  abbrev own_both : List ℕ → EndState → EndState
  own_both q e = both_queued (sends_to r.node event q) (told_to r event q) tag e

  -- the router's own end, and another one
  pub own_end_is : (q : List ℕ) → end_of after_it.ends (x, q) ≡ option_map (own_both q) (end_of v.ends (x, q))
  own_end_is q =
      waiting_is sent_only x (told_to r event) tag (x, q)
      ∙ at_true (is_named x x) (option_map (λ e. queued e (told_to r event q) tag) (end_of sent_only (x, q))) (end_of sent_only (x, q)) (names.refl x)
      ∙ ap (option_map (λ e. queued e (told_to r event q) tag)) (waiting_is v.ends x (sends_to r.node event) tag (x, q)
      ∙ at_true (is_named x x) (option_map (λ e. queued e (sends_to r.node event q) tag) (end_of v.ends (x, q))) (end_of v.ends (x, q)) (names.refl x))
      ∙ by (end_of v.ends (x, q))
    where
      by : (o : Option EndState) → option_map (λ e. queued e (told_to r event q) tag) (option_map (λ e. queued e (sends_to r.node event q) tag) o) ≡ option_map (own_both q) o
      by None = refl
      by (Some e) = refl

  pub other_end_is : (e : End) → is_named x e.0 ≡ false → end_of after_it.ends e ≡ end_of v.ends e
  other_end_is e apart =
      waiting_is sent_only x (told_to r event) tag e
      ∙ at_false (is_named x e.0) (option_map (λ z. queued z (told_to r event e.1) tag) (end_of sent_only e)) (end_of sent_only e) apart
      ∙ waiting_is v.ends x (sends_to r.node event) tag e
      ∙ at_false (is_named x e.0) (option_map (λ z. queued z (sends_to r.node event e.1) tag) (end_of v.ends e)) (end_of v.ends e) apart

  -- a test of ends that hearing keeps
  pub end_kept : (P : End → Option EndState → Type 0) → ((e : End) (o : Option EndState) → P e o → P e (option_map (own_both e.1) o)) →
      (e : End) → P e (end_of v.ends e) → P e (end_of after_it.ends e)
  end_kept P keeps e h = by (is_named x e.0) refl
    where
      by : (b : Bool) → is_named x e.0 ≡ b → P e (end_of after_it.ends e)
      by false n = subst (P e) (sym (other_end_is e n)) h
      by true n =
          let same : x ≡ e.0 = same_name x e.0 n in
          let own : end_of after_it.ends e ≡ option_map (own_both e.1) (end_of v.ends e) =
          subst (λ z. end_of after_it.ends (z, e.1) ≡ option_map (own_both e.1) (end_of v.ends (z, e.1))) same (own_end_is e.1) in
          subst (P e) (sym own) (keeps e (end_of v.ends e) h)

  -- clients' links are as before
  pub homes_kept : Homes v → (clients : Clients) → clients ≡ v.clients → (y c : List ℕ) (k : ClientState) → client_of clients c ≡ Some k → IsHome k y (end_of after_it.ends (y, c))
  homes_kept h clients same y c k i =
      end_kept (λ e. IsHome k e.0) (λ e o. home_queued (sends_to r.node event e.1) (told_to r event e.1) tag k e.0 o) (y, c) (h y c k (ap (λ z. client_of z c) (sym same) ∙ i))

  -- the router itself, and to whom it has links then
  pub own_router_is : router_of v.routers x ≡ Some r → router_of after_it.routers x ≡ Some (having_told r event)
  own_router_is found =
      let once : router_of (with_router v.routers x (hearing r event)) x ≡ Some (hearing r event) =
      value_after v.routers x x (hearing r event) (ap is_some found) ∙ at_true (is_named x x) (Some (hearing r event)) (router_of v.routers x) (names.refl x) in
      value_after (with_router v.routers x (hearing r event)) x x (having_told r event) (ap is_some once)
      ∙ at_true (is_named x x) (Some (having_told r event)) (router_of (with_router v.routers x (hearing r event)) x) (names.refl x)

  pub no_own_end : (q : List ℕ) → end_of v.ends (x, q) ≡ None → end_of after_it.ends (x, q) ≡ None
  no_own_end q none = own_end_is q ∙ ap (option_map (own_both q)) none

-- no link leads to whom a sound world has no end
pub no_link_to : (w : WorldState) → IsSound w → (x q : List ℕ) (r : RouterState) → router_of w.routers x ≡ Some r → is_up w.ends (x, q) ≡ false → link_to r.node.links q ≡ None
no_link_to w sound x q r found down = not_there (link_to r.node.links q) (sound.links x q r found ∙ down)

-- a router that hears
module _ (ids : List (List ℕ)) (s : Several) (v : WorldState) (report : List ReportLine) (x : List ℕ) (event : Event) (tag : ℕ) (h : Calm ids s v report) (known : is_among ids x ≡ true)
    (reach : (q : List ℕ) → end_of v.ends (x, q) ≡ None → link_to (hub_after (s.hub x) event).node.links q ≡ None) where
  abbrev r : RouterState
  r = router_in s x

  abbrev w : WorldState
  w = heard_in v x r event tag

  abbrev then : Several
  then = heard s x event

  abbrev more : List ℕ → List Msg
  more q = queued_for (s.hub x) event q

  found : router_of v.routers x ≡ Some r
  found = h.routers x ∙ at_true (is_among ids x) (Some (router_in s x)) None known

  own_hub : then.hub x ≡ hub_after (s.hub x) event
  own_hub = at_true (is_named x x) (hub_after (s.hub x) event) (s.hub x) (names.refl x)

  routers_then : (q : List ℕ) → router_of w.routers q ≡ cond (is_among ids q) (Some (router_in then q)) None
  routers_then q =
      let once : router_of (with_router v.routers x (hearing r event)) q ≡ cond (is_named x q) (Some (hearing r event)) (router_of v.routers q) =
      value_after v.routers x q (hearing r event) (ap is_some found) in
      let again : router_of w.routers q ≡ cond (is_named x q) (Some (having_told r event)) (router_of (with_router v.routers x (hearing r event)) q) =
      value_after (with_router v.routers x (hearing r event)) x q (having_told r event)
      (ap is_some (value_after v.routers x x (hearing r event) (ap is_some found) ∙ at_true (is_named x x) (Some (hearing r event)) (router_of v.routers x) (names.refl x))) in
      again ∙ ap (cond (is_named x q) (Some (having_told r event))) once ∙ by (is_named x q) refl
    where
      by : (b : Bool) → is_named x q ≡ b → cond b (Some (having_told r event)) (cond b (Some (hearing r event)) (router_of v.routers q)) ≡ cond (is_among ids q) (Some (router_in then q)) None
      by true n =
          let at : Some (router_in then x) ≡ cond (is_among ids x) (Some (router_in then x)) None = sym (at_true (is_among ids x) (Some (router_in then x)) None known) in
          let own : Some (having_told r event) ≡ Some (router_in then x) = ap (λ (g : HubState). Some (record { node = g.node; told = g.told; weight = s.weight x })) (sym own_hub) in
          subst (λ z. Some (having_told r event) ≡ cond (is_among ids z) (Some (router_in then z)) None) (same_name x q n) (own ∙ at)
      by false n =
          let own : then.hub q ≡ s.hub q = at_false (is_named x q) (hub_after (s.hub x) event) (s.hub q) n in
          h.routers q ∙ ap (λ (g : HubState). cond (is_among ids q) (Some (record { node = g.node; told = g.told; weight = s.weight q })) None) (sym own)

  ends_then : (e : End) → read (end_of w.ends e) ≡ cond (is_named x e.0 && is_client v e.1) (with_waits (then.links e) (more e.1)) (then.links e)
  ends_then e = by (is_named x e.0) refl (is_some (s.clients e.1)) refl
    where
      client_is : is_client v e.1 ≡ is_some (s.clients e.1)
      client_is = ap is_some (h.clients e.1)

      with_more : LinkState
      with_more = with_waits (s.links e) ((s.links e).waits ++ more e.1)

      own_is : is_named x e.0 ≡ true → read (end_of w.ends e) ≡ with_more
      own_is n =
          let same : x ≡ e.0 = same_name x e.0 n in
          let own : end_of w.ends e ≡ option_map (both_queued (sends_to r.node event e.1) (told_to r event e.1) tag) (end_of v.ends e) =
          subst (λ z. end_of w.ends (z, e.1) ≡ option_map (both_queued (sends_to r.node event e.1) (told_to r event e.1) tag) (end_of v.ends (z, e.1))) same (own_end_is v x r event tag e.1) in
          let none : end_of v.ends e ≡ None → sends_to r.node event e.1 ++ told_to r event e.1 ≡ [] =
          λ no. all_for r event e.1 ∙ ap (λ o. option_map_or (λ l. hub_sends (s.hub x) event l.link) o []) (reach e.1 (ap (λ z. end_of v.ends (z, e.1)) same ∙ no)) in
          ap read own ∙ read_queued (sends_to r.node event e.1) (told_to r event e.1) tag (end_of v.ends e) none
          ∙ ap (λ z. with_waits (read (end_of v.ends e)) ((read (end_of v.ends e)).waits ++ z)) (all_for r event e.1) ∙ ap (λ l. with_waits l (l.waits ++ more e.1)) (h.ends e)

      by : (b : Bool) → is_named x e.0 ≡ b → (c : Bool) → is_some (s.clients e.1) ≡ c →
          read (end_of w.ends e) ≡ cond (is_named x e.0 && is_client v e.1) (with_waits (then.links e) (more e.1)) (then.links e)
      by b n c i = ap (λ (z : LinkState). z) (value b c n i) ∙ sym (target b c n i)
        where
          now : Bool → Bool → LinkState
          now b c = cond (b && not c) with_more (s.links e)

          target : (b c : Bool) → is_named x e.0 ≡ b → is_some (s.clients e.1) ≡ c →
              cond (is_named x e.0 && is_client v e.1) (with_waits (then.links e) (more e.1)) (then.links e) ≡ cond (b && c) (with_waits (now b c) (more e.1)) (now b c)
          target b c n i = ap (λ z. cond (z && is_client v e.1) (with_waits (now z (is_some (s.clients e.1))) (more e.1)) (now z (is_some (s.clients e.1)))) n
              ∙ ap (λ z. cond (b && z) (with_waits (now b (is_some (s.clients e.1))) (more e.1)) (now b (is_some (s.clients e.1)))) client_is
              ∙ ap (λ z. cond (b && z) (with_waits (now b z) (more e.1)) (now b z)) i

          value : (b c : Bool) → is_named x e.0 ≡ b → is_some (s.clients e.1) ≡ c → read (end_of w.ends e) ≡ cond (b && c) (with_waits (now b c) (more e.1)) (now b c)
          value true true n i = own_is n ∙ ap (λ z. with_waits (s.links e) (z ++ more e.1)) (h.rest e.0 e.1 (client_is ∙ i))
          value true false n i = own_is n
          value false c n i = ap read (other_end_is v x r event tag e n) ∙ h.ends e

  rest_then : (y c : List ℕ) → is_client v c ≡ true → (then.links (y, c)).waits ≡ []
  rest_then y c i =
      ap (λ z. (cond (is_named x y && not z) (with_waits (s.links (y, c)) ((s.links (y, c)).waits ++ more c)) (s.links (y, c))).waits) (ap is_some (sym (h.clients c)) ∙ i)
      ∙ by (is_named x y)
    where
      by : (b : Bool) → (cond (b && false) (with_waits (s.links (y, c)) ((s.links (y, c)).waits ++ more c)) (s.links (y, c))).waits ≡ []
      by true = h.rest y c i
      by false = h.rest y c i

  pub hears : Pending ids then x more w report
  hears = record {
    routers = routers_then;
    known = known;
    clients = λ c. ap (option_map (λ k. fold receiving k (more c))) (h.clients c);
    apart = h.apart;
    ends = ends_then;
    wires = λ e. end_kept v x r event tag (λ e o. wire_at o ≡ []) (λ e o p. wire_queued (sends_to r.node event e.1) (told_to r event e.1) tag o ∙ p) e (h.wires e);
    rest = rest_then;
    told = λ c apart. ap (λ z. z ++ more c) (h.told c apart);
    only = λ c none. ap (λ o. option_map_or (λ l. hub_sends (s.hub x) event l.link) o []) (ap (λ (g : HubState). link_to g.node.links c) (sym own_hub) ∙ none);
    came = h.came;
  }
