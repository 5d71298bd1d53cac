-- The rows of routers and the ids of clients, in worlds (`ClientsHold`): what waits on the wire from a client leads from the rows of its link to the
-- ids that it has, and takes back only what is there then. Each act that is not refused keeps it (`clients_keep`).
use Rattle.std.proofs.Common.{◌≡◌, ℕ, Bool, true, false, cond, not, List, [], ◌∷◌, ◌++◌, Option, Some, None, is_some, refl, sym, ap, ◌∙◌, subst}
use Rattle.std.specs.Prelude.{◌&&◌, ◌==◌}
use Rattle.std.specs.List.{AllByRecursion}
use Rattle.std.specs.Option.{option_map, option_map_or}
use Rattle.std.specs.Ordering.{nat_cmp}
use Rattle.std.specs.Cmp.Lexicographic.{slice_cmp}
use Rattle.std.specs.BTreeMap.{insert_entry}
use Rattle.std.proofs.lemmas.Bool.{true≢false, false≢true, false_from_ne_true, eqb-true, eq-eqb, eqb-false}
use Rattle.zr_id.specs.Zid.{is_named}
use Rattle.zr_id.specs.declared.link.LinkNo.{LinkNo}
use Rattle.zr_graph.proofs.Names.{same_is, same_refl}
use Rattle.zr_lists.proofs.Finds.{In, find_in}
use Rattle.zr_lists.proofs.Options.{not_there}
use Rattle.zr_msg.specs.declared.msg.Msg.{Msg}
use Rattle.zr_msg.specs.declared.event.Event.{Event}
use Rattle.zr_msg.specs.declared.event.Event.TheVariants.{Up, Down, From}
use Rattle.zr_msg.specs.declared.peer.LinkPeer.{LinkPeer}
use Rattle.zr_msg.specs.Peer.{PeerState}
use Rattle.zr_local.specs.Rows.{left}
use Rattle.zr_local.specs.declared.row.Row.{Row}
use Rattle.zr_node_spec.specs.Tables.{is_link, link_at, link_to, is_router, leads_to_client}
use Rattle.zr_node_spec.specs.State.{NodeState, new_link}
use Rattle.zr_node_spec.specs.Table.{with_link, without_link, after}
use Rattle.zr_node_spec.proofs.LinksStay.{links_from}
use Rattle.zr_told_spec.specs.declared.place.Class.{Class}
use Rattle.zr_told_spec.specs.declared.place.Class.TheVariants.{Subscriber, Queryable, Living}
use Rattle.zr_world_spec.specs.World.{Tagged, RouterState, EndState, ClientState, End, Ends, Clients, WorldState, with_routers, with_clients, with_ends, new_router, new_client, with_router, with_client, router_of, client_of, end_of, is_end, put_end, with_end, with_wire, with_queue, new_end, is_up, is_unbroken, is_taken, broken, sent, queued, changed, wire_at}
use Rattle.zr_world_spec.specs.Acts.{weighing, hearing, sending, sends_to}
use Rattle.zr_world_spec.specs.Sound.{IsSound}
use Rattle.zr_world_spec.proofs.Names.{value_new, read_kept, read_after}
use Rattle.zr_world_spec.proofs.Ends.{end_parts, same_end, ends, read_with_end, keep_with_end, read_put_end, read_changed, keep_changed, keep_all_queued}
use Rattle.zr_world_spec.proofs.Links.{link_to_with, link_at_with, link_at_without, link_to_without}
use Rattle.zr_world_spec.proofs.Links as links
use Rattle.zr_world_spec.proofs.Cases.{free_name}
use Rattle.zr_world_spec.proofs.Clients.{SameClients, idle_client, client_was}
use Rattle.zr_law_settled.proofs.Spreading.{Name}
use Rattle.zr_law_settled.proofs.Worlds.{there_in}
use Rattle.zr_law_settled.proofs.Quiet.{passes_there}
use Rattle.zr_law_settled.proofs.Moving.{up_at, unbroken_at}
use Rattle.zr_law_settled.proofs.Links.{AreKnown, linked_to, is_at}
use Rattle.zr_law_settled.proofs.Changes.{links_known}
use Rattle.zr_law_settled.proofs.Declaring.{said, IsAsked, all_said, AreAsked, asked_more, said_more, has_ids, has_rows, heard_here, heard_there, rows_pass, left_there}

-- What waits on the wire from a client leads from the rows of its link to the ids that it has.
pub record Hears (n : NodeState) (link : ℕ) (s : ClientState) (ws : List Tagged) : Type 0 where
  pub asked : AreAsked (has_rows n.rows link) ws
  pub leads : all_said (has_rows n.rows link) ws ≡ has_ids s

-- No client has a router's name; only its own router has an end for a client, which is up as long as its link is unbroken, and has nothing on its
-- wire once it is broken; and rows are of links to clients.
pub record ClientsHold (w : WorldState) : Type 0 where
  pub apart : (c : Name) (s : ClientState) → client_of w.clients c ≡ Some s → there_in w c ≡ false
  pub homes : (x c : Name) (s : ClientState) → client_of w.clients c ≡ Some s → is_some (end_of w.ends (x, c)) ≡ true → s.router ≡ x
  pub ups : (x c : Name) (s : ClientState) → client_of w.clients c ≡ Some s → is_unbroken w.ends (x, c) ≡ true → is_up w.ends (x, c) ≡ true
  pub emptied : (x c : Name) (s : ClientState) → client_of w.clients c ≡ Some s → is_unbroken w.ends (x, c) ≡ false → wire_at (end_of w.ends (x, c)) ≡ []
  pub hears : (x c : Name) (r : RouterState) (s : ClientState) (l : LinkPeer) → router_of w.routers x ≡ Some r → client_of w.clients c ≡ Some s → link_to r.node.links c ≡ Some l →
      is_unbroken w.ends (x, c) ≡ true → Hears r.node l.link.0 s (wire_at (end_of w.ends (x, c)))
  pub rows : (x : Name) (r : RouterState) → router_of w.routers x ≡ Some r → AllByRecursion (λ q. leads_to_client r.node.links q.link.0 ≡ true) r.node.rows

-- an end that leads to a router is not one that leads to a client
pub not_to : (w : WorldState) → ClientsHold w → (a b x c : Name) (s : ClientState) → there_in w b ≡ true → client_of w.clients c ≡ Some s → is_end (a, b) (x, c) ≡ false
not_to w h a b x c s router client = false_from_ne_true (is_end (a, b) (x, c)) (λ e.
    true≢false (sym router ∙ ap (λ (q : End). there_in w q.1) (same_end (a, b) (x, c) e) ∙ h.apart c s client))

-- ---- ends alone

-- Where the ends of clients that are there then were there before, and one with an unbroken link was unbroken, is up, and has the same on its wire.
pub record EndsStay (w : WorldState) (es : Ends) : Type 0 where
  pub some : (x c : Name) (s : ClientState) → client_of w.clients c ≡ Some s → is_some (end_of es (x, c)) ≡ true → is_some (end_of w.ends (x, c)) ≡ true
  pub whole : (x c : Name) (s : ClientState) → client_of w.clients c ≡ Some s → is_unbroken es (x, c) ≡ true → is_unbroken w.ends (x, c) ≡ true
  pub up : (x c : Name) (s : ClientState) → client_of w.clients c ≡ Some s → is_unbroken es (x, c) ≡ true → is_up es (x, c) ≡ is_up w.ends (x, c)
  pub wire : (x c : Name) (s : ClientState) → client_of w.clients c ≡ Some s → is_unbroken es (x, c) ≡ true → wire_at (end_of es (x, c)) ≡ wire_at (end_of w.ends (x, c))
  -- and one with a broken link has nothing there, if it had nothing where it was broken before
  pub empty : (x c : Name) (s : ClientState) → client_of w.clients c ≡ Some s → is_unbroken es (x, c) ≡ false →
      (is_unbroken w.ends (x, c) ≡ false → wire_at (end_of w.ends (x, c)) ≡ []) → wire_at (end_of es (x, c)) ≡ []

pub ends_kept : (w : WorldState) (es : Ends) → ClientsHold w → EndsStay w es → ClientsHold (with_ends w es)
ends_kept w es h e = record {
  apart = h.apart;
  homes = λ x c s client some. h.homes x c s client (e.some x c s client some);
  ups = λ x c s client whole. e.up x c s client whole ∙ h.ups x c s client (e.whole x c s client whole);
  emptied = λ x c s client cut. e.empty x c s client cut (h.emptied x c s client);
  hears = λ x c r s l found client linked whole.
      subst (λ ws. Hears r.node l.link.0 s ws) (sym (e.wire x c s client whole)) (h.hears x c r s l found client linked (e.whole x c s client whole));
  rows = h.rows;
}

-- queries and requests are none of a client's ids
idle_ids : (s : ClientState) → has_ids (idle_client s) ≡ has_ids s
idle_ids s = λ t class i. at class i t
  where
    at : (class : Class) (i : ℕ) → has_ids (idle_client s) class i ≡ has_ids s class i
    at Subscriber i = refl
    at Queryable i = refl
    at Living i = refl

-- clients whose queries and requests alone are others
pub same_hold : (w : WorldState) (clients : Clients) → SameClients w.clients clients → ClientsHold w → ClientsHold (with_clients w clients)
same_hold w clients same h = record {
  apart = λ c t found. let s = was c t found in h.apart c s.0 s.1;
  homes = λ x c t found some. let s = was c t found in sym (ap (λ (q : ClientState). q.router) s.2) ∙ h.homes x c s.0 s.1 some;
  ups = λ x c t found whole. let s = was c t found in h.ups x c s.0 s.1 whole;
  emptied = λ x c t found cut. let s = was c t found in h.emptied x c s.0 s.1 cut;
  hears = λ x c r t l there found linked whole. let s = was c t found in let old = h.hears x c r s.0 l there s.1 linked whole in record { asked = old.asked; leads = old.leads ∙ sym (idle_ids s.0) ∙ ap has_ids s.2 ∙ idle_ids t };
  rows = h.rows;
}
  where
    was : (c : Name) (t : ClientState) → client_of clients c ≡ Some t → (s : ClientState) × (client_of w.clients c ≡ Some s) × (idle_client s ≡ idle_client t)
    was c t found = client_was w.clients clients same c t found

-- where each end of a client reads as before, but for its queue
pub reads_same : (w : WorldState) (es : Ends) → ((x c : Name) (s : ClientState) → client_of w.clients c ≡ Some s → (is_some (end_of es (x, c)) ≡ is_some (end_of w.ends (x, c)))
    × (unbroken_at (end_of es (x, c)) ≡ unbroken_at (end_of w.ends (x, c))) × (up_at (end_of es (x, c)) ≡ up_at (end_of w.ends (x, c))) × (wire_at (end_of es (x, c)) ≡ wire_at (end_of w.ends (x, c)))) → EndsStay w es
reads_same w es same = record {
  some = λ x c s client some. sym (same x c s client).0 ∙ some;
  whole = λ x c s client whole. sym (same x c s client).1 ∙ whole;
  up = λ x c s client whole. (same x c s client).2;
  wire = λ x c s client whole. (same x c s client).3;
  empty = λ x c s client cut was. (same x c s client).3 ∙ was (sym (same x c s client).1 ∙ cut);
}

module _ (w : WorldState) (h : ClientsHold w) where
  pub linked_stay : (a b : Name) (weight : ℕ) → there_in w a ≡ true → there_in w b ≡ true → EndsStay w (put_end (put_end w.ends (a, b) (new_end weight)) (b, a) (new_end weight))
  linked_stay a b weight here there = reads_same w (put_end (put_end w.ends (a, b) (new_end weight)) (b, a) (new_end weight)) (λ x c s client.
      (same is_some x c s client, same unbroken_at x c s client, same up_at x c s client, same wire_at x c s client))
    where
      same : {Y : Type 0} (f : Option EndState → Y) (x c : Name) (s : ClientState) → client_of w.clients c ≡ Some s → f (end_of (put_end (put_end w.ends (a, b) (new_end weight)) (b, a) (new_end weight)) (x, c)) ≡ f (end_of w.ends (x, c))
      same f x c s client =
          read_put_end (put_end w.ends (a, b) (new_end weight)) (b, a) (new_end weight) f (x, c)
          ∙ ap (λ t. cond t (f (Some (new_end weight))) (f (end_of (put_end w.ends (a, b) (new_end weight)) (x, c)))) (not_to w h b a x c s here client)
          ∙ read_put_end w.ends (a, b) (new_end weight) f (x, c)
          ∙ ap (λ t. cond t (f (Some (new_end weight))) (f (end_of w.ends (x, c)))) (not_to w h a b x c s there client)

  pub taken_stay : (a b : Name) (s : EndState) → end_of w.ends (a, b) ≡ Some s → there_in w a ≡ true → (msg : Msg) (tag : ℕ) (xs : List Tagged) →
      EndsStay w (changed (with_end w.ends (a, b) (with_queue s xs)) (b, a) (λ e. sent e msg tag))
  taken_stay a b s found here msg tag xs = reads_same w _ (λ x c t client. (same is_some refl x c t client, same unbroken_at refl x c t client, same up_at refl x c t client, same wire_at refl x c t client))
    where
      same : {Y : Type 0} (f : Option EndState → Y) → f (Some (with_queue s xs)) ≡ f (Some s) → (x c : Name) (t : ClientState) → client_of w.clients c ≡ Some t →
          f (end_of (changed (with_end w.ends (a, b) (with_queue s xs)) (b, a) (λ e. sent e msg tag)) (x, c)) ≡ f (end_of w.ends (x, c))
      same f e x c t client =
          read_changed (with_end w.ends (a, b) (with_queue s xs)) (b, a) (λ q. sent q msg tag) f (x, c)
          ∙ ap (λ u. cond u (f (option_map (λ q. sent q msg tag) (end_of (with_end w.ends (a, b) (with_queue s xs)) (x, c)))) (f (end_of (with_end w.ends (a, b) (with_queue s xs)) (x, c)))) (not_to w h b a x c t here client)
          ∙ keep_with_end w.ends (a, b) (with_queue s xs) f (x, c) s found e

  -- an end that is changed is broken
  pub cut_stay : (es : Ends) (a b : Name) (change : EndState → EndState) → EndsStay w es → ((x c : Name) → is_unbroken (changed es (a, b) change) (x, c) ≡ true → is_end (a, b) (x, c) ≡ false) →
      ((o : Option EndState) → unbroken_at (option_map change o) ≡ false → (unbroken_at o ≡ false → wire_at o ≡ []) → wire_at (option_map change o) ≡ []) → EndsStay w (changed es (a, b) change)
  cut_stay es a b change e cut clears = record {
    some = λ x c s client some. e.some x c s client (sym (there x c) ∙ some);
    whole = λ x c s client whole. e.whole x c s client (sym (same unbroken_at x c (cut x c whole)) ∙ whole);
    up = λ x c s client whole. same up_at x c (cut x c whole) ∙ e.up x c s client (sym (same unbroken_at x c (cut x c whole)) ∙ whole);
    wire = λ x c s client whole. same wire_at x c (cut x c whole) ∙ e.wire x c s client (sym (same unbroken_at x c (cut x c whole)) ∙ whole);
    empty = λ x c s client down was. empty x c s client down was (is_end (a, b) (x, c)) refl;
  }
    where
      there : (x c : Name) → is_some (end_of (changed es (a, b) change) (x, c)) ≡ is_some (end_of es (x, c))
      there x c = keep_changed es (a, b) change is_some (x, c) (λ s. refl)

      same : {Y : Type 0} (f : Option EndState → Y) (x c : Name) → is_end (a, b) (x, c) ≡ false → f (end_of (changed es (a, b) change) (x, c)) ≡ f (end_of es (x, c))
      same f x c other = read_changed es (a, b) change f (x, c) ∙ ap (λ t. cond t (f (option_map change (end_of es (x, c)))) (f (end_of es (x, c)))) other

      here : {Y : Type 0} (f : Option EndState → Y) (x c : Name) → is_end (a, b) (x, c) ≡ true → f (end_of (changed es (a, b) change) (x, c)) ≡ f (option_map change (end_of es (x, c)))
      here f x c t = read_changed es (a, b) change f (x, c) ∙ ap (λ u. cond u (f (option_map change (end_of es (x, c)))) (f (end_of es (x, c)))) t

      empty : (x c : Name) (s : ClientState) → client_of w.clients c ≡ Some s → is_unbroken (changed es (a, b) change) (x, c) ≡ false → (is_unbroken w.ends (x, c) ≡ false → wire_at (end_of w.ends (x, c)) ≡ []) →
          (t : Bool) → is_end (a, b) (x, c) ≡ t → wire_at (end_of (changed es (a, b) change) (x, c)) ≡ []
      empty x c s client down was false t = same wire_at x c t ∙ e.empty x c s client (sym (same unbroken_at x c t) ∙ down) was
      empty x c s client down was true t =
          here wire_at x c t ∙ clears (end_of es (x, c)) (sym (here unbroken_at x c t) ∙ down) (λ u. e.empty x c s client u was)

  pub none_stay : EndsStay w w.ends
  none_stay = record { some = λ x c s client e. e; whole = λ x c s client e. e; up = λ x c s client e. refl; wire = λ x c s client e. refl; empty = λ x c s client cut was. was cut }

  pub broken_stay : (a b : Name) → EndsStay w (changed (changed w.ends (a, b) broken) (b, a) broken)
  broken_stay a b = cut_stay (changed w.ends (a, b) broken) b a broken (cut_stay w.ends a b broken none_stay (cut w.ends a b) clears) (cut (changed w.ends (a, b) broken) b a) clears
    where
      clears : (o : Option EndState) → unbroken_at (option_map broken o) ≡ false → (unbroken_at o ≡ false → wire_at o ≡ []) → wire_at (option_map broken o) ≡ []
      clears None cut was = refl
      clears (Some s) cut was = refl

      no_link : (o : Option EndState) → unbroken_at (option_map broken o) ≡ false
      no_link None = refl
      no_link (Some s) = refl

      cut : (es : Ends) (a b x c : Name) → is_unbroken (changed es (a, b) broken) (x, c) ≡ true → is_end (a, b) (x, c) ≡ false
      cut es a b x c whole = false_from_ne_true (is_end (a, b) (x, c)) (λ e. false≢true (
          sym (read_changed es (a, b) broken unbroken_at (x, c) ∙ ap (λ t. cond t (unbroken_at (option_map broken (end_of es (x, c)))) (unbroken_at (end_of es (x, c)))) e ∙ no_link (end_of es (x, c))) ∙ whole))

-- ---- routers come, and weights change

pub router_clients : (w : WorldState) → ClientsHold w → (id : Name) → is_taken w id ≡ false → ClientsHold (with_routers w (insert_entry (slice_cmp nat_cmp) w.routers id (new_router id)))
router_clients w h id free = record {
  apart = λ c s client. ap is_some (routers c) ∙ ap (λ b. is_some (cond b (Some (new_router id)) (router_of w.routers c))) (other c s client) ∙ h.apart c s client;
  homes = h.homes;
  ups = h.ups;
  emptied = h.emptied;
  hears = λ x c r s l found client linked whole. hears x c r s l client linked whole (is_named x id) (sym (routers x) ∙ found);
  rows = λ x r found. rows x r (is_named x id) (sym (routers x) ∙ found);
}
  where
    names_free : (is_some (router_of w.routers id) ≡ false) × (is_some (client_of w.clients id) ≡ false)
    names_free = free_name w id free

    routers : (x : Name) → router_of (insert_entry (slice_cmp nat_cmp) w.routers id (new_router id)) x ≡ cond (is_named x id) (Some (new_router id)) (router_of w.routers x)
    routers x = value_new w.routers id x (new_router id) (not_there (router_of w.routers id) names_free.0)

    other : (c : Name) (s : ClientState) → client_of w.clients c ≡ Some s → is_named c id ≡ false
    other c s client = false_from_ne_true (is_named c id) (λ e. true≢false (sym (ap is_some client) ∙ ap (λ q. is_some (client_of w.clients q)) (same_is c id e) ∙ names_free.1))

    hears : (x c : Name) (r : RouterState) (s : ClientState) (l : LinkPeer) → client_of w.clients c ≡ Some s → link_to r.node.links c ≡ Some l → is_unbroken w.ends (x, c) ≡ true → (t : Bool) →
        cond t (Some (new_router id)) (router_of w.routers x) ≡ Some r → Hears r.node l.link.0 s (wire_at (end_of w.ends (x, c)))
    hears x c r s l client linked whole false found = h.hears x c r s l found client linked whole
    hears x c r s l client linked whole true found =
        let one : new_router id ≡ r = cc in
        let no : None ≡ Some l = ap (λ (q : RouterState). link_to q.node.links c) one ∙ linked in absurd (cc)

    rows : (x : Name) (r : RouterState) (t : Bool) → cond t (Some (new_router id)) (router_of w.routers x) ≡ Some r → AllByRecursion (λ q. leads_to_client r.node.links q.link.0 ≡ true) r.node.rows
    rows x r false found = h.rows x r found
    rows x r true found = let one : new_router id ≡ r = cc in subst (λ (q : RouterState). AllByRecursion (λ p. leads_to_client q.node.links p.link.0 ≡ true) q.node.rows) one tt

pub weighed_clients : (w : WorldState) → ClientsHold w → (a : Name) (r : RouterState) (key : List ℕ) → router_of w.routers a ≡ Some r → ClientsHold (with_routers w (with_router w.routers a (weighing r key)))
weighed_clients w h a r key found = record {
  apart = λ c s client. read_kept is_some w.routers a c r (weighing r key) found refl ∙ h.apart c s client;
  homes = h.homes;
  ups = h.ups;
  emptied = h.emptied;
  hears = λ x c q s l there client linked whole. at x q (λ p. (link_to p.node.links c ≡ Some l) → Hears p.node l.link.0 s (wire_at (end_of w.ends (x, c)))) (λ is. is)
      (λ q found'. λ on. h.hears x c q s l found' client on whole) (is_named a x) refl (sym (read_after (λ o. o) w.routers a x r (weighing r key) found) ∙ there) linked;
  rows = λ x q there. at x q (λ p. AllByRecursion (λ y. leads_to_client p.node.links y.link.0 ≡ true) p.node.rows) (λ is. is) (λ q found'. h.rows x q found') (is_named a x) refl
      (sym (read_after (λ o. o) w.routers a x r (weighing r key) found) ∙ there);
}
  where
    at : (x : Name) (q : RouterState) (P : RouterState → Type 0) → (P r → P (weighing r key)) → ((q : RouterState) → router_of w.routers x ≡ Some q → P q) → (t : Bool) → is_named a x ≡ t →
        cond t (Some (weighing r key)) (router_of w.routers x) ≡ Some q → P q
    at x q P more all true e there = let one : weighing r key ≡ q = cc in subst P one (more (all r (ap (router_of w.routers) (sym (same_is a x e)) ∙ found)))
    at x q P more all false e there = all q there

-- ---- a client says something

module _ (w : WorldState) (h : ClientsHold w) (name : Name) (s s2 : ClientState) (found : client_of w.clients name ≡ Some s) (e : EndState) (at_end : end_of w.ends (s.router, name) ≡ Some e) (msg : Msg) (tag : ℕ)
    (on : e.unbroken ≡ true) (home : s2.router ≡ s.router) (asked : IsAsked (has_ids s) msg) (leads : said (has_ids s) msg ≡ has_ids s2) where
  pub client_says : ClientsHold (with_clients (with_ends w (with_end w.ends (s.router, name) (sent e msg tag))) (with_client w.clients name s2))
  client_says = record {
    apart = λ c t client. let old = was c t client in h.apart c old.0 old.1;
    homes = λ x c t client some. let old = was c t client in sym old.2 ∙ h.homes x c old.0 old.1 (sym (keep is_some refl (x, c)) ∙ some);
    emptied = λ x c t client cut. let old = was c t client in emptied x c old.0 old.1 (sym (keep unbroken_at refl (x, c)) ∙ cut) (is_end (s.router, name) (x, c)) refl;
    ups = λ x c t client whole. let old = was c t client in keep up_at refl (x, c) ∙ h.ups x c old.0 old.1 (sym (keep unbroken_at refl (x, c)) ∙ whole);
    hears = λ x c r t l there client linked whole.
        hears x c r t l there linked (sym (keep unbroken_at refl (x, c)) ∙ whole) (is_named name c) refl (sym (read_after (λ o. o) w.clients name c s s2 found) ∙ client);
    rows = h.rows;
  }
    where
      es : Ends
      es = with_end w.ends (s.router, name) (sent e msg tag)

      keep : {Y : Type 0} (f : Option EndState → Y) → f (Some (sent e msg tag)) ≡ f (Some e) → (q : End) → f (end_of es q) ≡ f (end_of w.ends q)
      keep f same q = keep_with_end w.ends (s.router, name) (sent e msg tag) f q e at_end same

      emptied : (x c : Name) (t : ClientState) → client_of w.clients c ≡ Some t → is_unbroken w.ends (x, c) ≡ false → (b : Bool) → is_end (s.router, name) (x, c) ≡ b → wire_at (end_of es (x, c)) ≡ []
      emptied x c t client cut true b = absurd (true≢false (sym on ∙ sym (ap unbroken_at at_end) ∙ ap (λ (q : End). is_unbroken w.ends q) (same_end (s.router, name) (x, c) b) ∙ cut))
      emptied x c t client cut false b =
          read_with_end w.ends (s.router, name) (sent e msg tag) wire_at (x, c) (ap is_some at_end)
          ∙ ap (λ u. cond u (e.wire ++ record { msg = msg; tag = tag } ∷ []) (wire_at (end_of w.ends (x, c)))) b ∙ h.emptied x c t client cut

      -- a client then was one before, with the same router
      was : (c : Name) (t : ClientState) → client_of (with_client w.clients name s2) c ≡ Some t → (o : ClientState) × (client_of w.clients c ≡ Some o) × (o.router ≡ t.router)
      was c t client = by (is_named name c) refl (sym (read_after (λ o. o) w.clients name c s s2 found) ∙ client)
        where
          by : (b : Bool) → is_named name c ≡ b → cond b (Some s2) (client_of w.clients c) ≡ Some t → (o : ClientState) × (client_of w.clients c ≡ Some o) × (o.router ≡ t.router)
          by true n there = let one : s2 ≡ t = cc in (s, ap (client_of w.clients) (sym (same_is name c n)) ∙ found, sym home ∙ ap (λ (q : ClientState). q.router) one)
          by false n there = (t, there, refl)

      hears : (x c : Name) (r : RouterState) (t : ClientState) (l : LinkPeer) → router_of w.routers x ≡ Some r → link_to r.node.links c ≡ Some l → is_unbroken w.ends (x, c) ≡ true →
          (b : Bool) → is_named name c ≡ b → cond b (Some s2) (client_of w.clients c) ≡ Some t → Hears r.node l.link.0 t (wire_at (end_of es (x, c)))
      hears x c r t l there linked whole false n client =
          subst (λ ws. Hears r.node l.link.0 t ws) (sym (read_with_end w.ends (s.router, name) (sent e msg tag) wire_at (x, c) (ap is_some at_end)
          ∙ ap (λ u. cond u (e.wire ++ record { msg = msg; tag = tag } ∷ []) (wire_at (end_of w.ends (x, c)))) (end_parts (s.router, name) (x, c) ∙ ap (λ u. is_named s.router x && u) n ∙ no (is_named s.router x))))
          (h.hears x c r t l there client linked whole)
        where
          no : (u : Bool) → (u && false) ≡ false
          no true = refl
          no false = refl
      hears x c r t l there linked whole true n client =
          let one : s2 ≡ t = cc in
          let c_is : name ≡ c = same_is name c n in
          let old : client_of w.clients c ≡ Some s = ap (client_of w.clients) (sym c_is) ∙ found in
          let x_is : s.router ≡ x = h.homes x c s old (passes_there (λ q. q.unbroken) w.ends (x, c) whole) in
          let here : is_end (s.router, name) (x, c) ≡ true = subst (λ y. is_end (s.router, name) (y, c) ≡ true) x_is (subst (λ y. is_end (s.router, name) (s.router, y) ≡ true) c_is (ends.refl (s.router, name))) in
          let wire_was : wire_at (end_of w.ends (x, c)) ≡ e.wire = ap (λ (q : End). wire_at (end_of w.ends q)) (sym (same_end (s.router, name) (x, c) here)) ∙ ap wire_at at_end in
          let wire_is : wire_at (end_of es (x, c)) ≡ e.wire ++ record { msg = msg; tag = tag } ∷ [] =
          read_with_end w.ends (s.router, name) (sent e msg tag) wire_at (x, c) (ap is_some at_end) ∙ ap (λ u. cond u (e.wire ++ record { msg = msg; tag = tag } ∷ []) (wire_at (end_of w.ends (x, c)))) here in
          let before : Hears r.node l.link.0 s e.wire = subst (λ ws. Hears r.node l.link.0 s ws) wire_was (h.hears x c r s l there old linked whole) in
          subst (λ ws. Hears r.node l.link.0 t ws) (sym wire_is) (record {
            asked = asked_more e.wire (has_rows r.node.rows l.link.0) (record { msg = msg; tag = tag }) before.asked (subst (λ p. IsAsked p msg) (sym before.leads) asked);
            leads = said_more e.wire (has_rows r.node.rows l.link.0) (record { msg = msg; tag = tag }) ∙ ap (λ p. said p msg) before.leads ∙ leads ∙ ap has_ids one;
          })

-- ---- a router hears of an event

module _ (w : WorldState) (h : ClientsHold w) (a : Name) (r : RouterState) (found : router_of w.routers a ≡ Some r) (event : Event) (tag : ℕ) (es : Ends)
    (some : (x c : Name) (s : ClientState) → client_of w.clients c ≡ Some s → is_some (end_of es (x, c)) ≡ true → is_some (end_of w.ends (x, c)) ≡ true)
    (whole : (x c : Name) (s : ClientState) → client_of w.clients c ≡ Some s → is_unbroken es (x, c) ≡ true → is_unbroken w.ends (x, c) ≡ true)
    (up : (x c : Name) (s : ClientState) → client_of w.clients c ≡ Some s → is_unbroken es (x, c) ≡ true → is_up es (x, c) ≡ is_up w.ends (x, c))
    (wire : (x c : Name) (s : ClientState) → is_named a x ≡ false → client_of w.clients c ≡ Some s → is_unbroken es (x, c) ≡ true → wire_at (end_of es (x, c)) ≡ wire_at (end_of w.ends (x, c)))
    (empty : (x c : Name) (s : ClientState) → client_of w.clients c ≡ Some s → is_unbroken es (x, c) ≡ false → (is_unbroken w.ends (x, c) ≡ false → wire_at (end_of w.ends (x, c)) ≡ []) → wire_at (end_of es (x, c)) ≡ [])
    (hears_then : (c : Name) (s : ClientState) (l : LinkPeer) → client_of w.clients c ≡ Some s → link_to (after r.node event).links c ≡ Some l → is_unbroken es (a, c) ≡ true →
    Hears (after r.node event) l.link.0 s (wire_at (end_of es (a, c))))
    (rows_then : AllByRecursion (λ q. leads_to_client (after r.node event).links q.link.0 ≡ true) (after r.node event).rows) where
  pub heard_clients : ClientsHold (sending (with_ends w es) a r event tag)
  heard_clients = record {
    apart = λ c s client. read_kept is_some w.routers a c r (hearing r event) found refl ∙ h.apart c s client;
    homes = λ x c s client there. h.homes x c s client (some x c s client (sym (read is_some (λ q msgs. refl) (x, c)) ∙ there));
    ups = λ x c s client there.
        let on = sym (read unbroken_at (λ q msgs. refl) (x, c)) ∙ there in
        read up_at (λ q msgs. refl) (x, c) ∙ up x c s client on ∙ h.ups x c s client (whole x c s client on);
    emptied = λ x c s client cut. read wire_at (λ q msgs. refl) (x, c) ∙ empty x c s client (sym (read unbroken_at (λ q msgs. refl) (x, c)) ∙ cut) (h.emptied x c s client);
    hears = λ x c q s l there client linked unbroken. subst (λ ws. Hears q.node l.link.0 s ws) (sym (read wire_at (λ e msgs. refl) (x, c)))
        (hears x c q s l client linked (sym (read unbroken_at (λ e msgs. refl) (x, c)) ∙ unbroken) (is_named a x) refl (sym (read_after (λ o. o) w.routers a x r (hearing r event) found) ∙ there));
    rows = λ x q there. rows x q (is_named a x) refl (sym (read_after (λ o. o) w.routers a x r (hearing r event) found) ∙ there);
  }
    where
      read : {Y : Type 0} (f : Option EndState → Y) → ((s : EndState) (msgs : List Msg) → f (Some (queued s msgs tag)) ≡ f (Some s)) → (q : End) →
          f (end_of (sending (with_ends w es) a r event tag).ends q) ≡ f (end_of es q)
      read f same q = keep_all_queued es a r.node event tag f q (λ s. same s (sends_to r.node event q.1))

      hears : (x c : Name) (q : RouterState) (s : ClientState) (l : LinkPeer) → client_of w.clients c ≡ Some s → link_to q.node.links c ≡ Some l → is_unbroken es (x, c) ≡ true → (t : Bool) → is_named a x ≡ t →
          cond t (Some (hearing r event)) (router_of w.routers x) ≡ Some q → Hears q.node l.link.0 s (wire_at (end_of es (x, c)))
      hears x c q s l client linked unbroken false n there =
          subst (λ ws. Hears q.node l.link.0 s ws) (sym (wire x c s n client unbroken)) (h.hears x c q s l there client linked (whole x c s client unbroken))
      hears x c q s l client linked unbroken true n there =
          let one : hearing r event ≡ q = cc in
          let x_is : a ≡ x = same_is a x n in
          subst (λ (p : RouterState). Hears p.node l.link.0 s (wire_at (end_of es (x, c)))) one
          (subst (λ y. Hears (after r.node event) l.link.0 s (wire_at (end_of es (y, c)))) x_is
          (hears_then c s l client (ap (λ (p : RouterState). link_to p.node.links c) one ∙ linked) (ap (λ y. is_unbroken es (y, c)) x_is ∙ unbroken)))

      rows : (x : Name) (q : RouterState) (t : Bool) → is_named a x ≡ t → cond t (Some (hearing r event)) (router_of w.routers x) ≡ Some q → AllByRecursion (λ y. leads_to_client q.node.links y.link.0 ≡ true) q.node.rows
      rows x q false n there = h.rows x q there
      rows x q true n there = let one : hearing r event ≡ q = cc in subst (λ (p : RouterState). AllByRecursion (λ y. leads_to_client p.node.links y.link.0 ≡ true) p.node.rows) one rows_then

-- what is heard goes by the ids that have a row
hears_same : (n n' : NodeState) (link : ℕ) (s : ClientState) (ws : List Tagged) → has_rows n'.rows link ≡ has_rows n.rows link → Hears n link s ws → Hears n' link s ws
hears_same n n' link s ws e h = record { asked = subst (λ p. AreAsked p ws) (sym e) h.asked; leads = ap (λ p. all_said p ws) e ∙ h.leads }

-- rows whose links still lead to clients
all_of : (P Q : ℕ → Type 0) (rows : List Row) → ((number : ℕ) → P number → Q number) → AllByRecursion (λ q. P q.link.0) rows → AllByRecursion (λ q. Q q.link.0) rows
all_of P Q [] f h = tt
all_of P Q (q ∷ rows) f h = (f q.link.0 h.0, all_of P Q rows f h.1)

module _ (w : WorldState) (sound : IsSound w) (h : ClientsHold w) (a : Name) (r : RouterState) (found : router_of w.routers a ≡ Some r) where
  -- ---- an end comes up

  module _ (link : LinkNo) (peer : PeerState) (free : link_at r.node.links link.0 ≡ None) (new : link_to r.node.links peer.id ≡ None) (tag : ℕ) (es : Ends) (e : EndsStay w es)
      (other : (c : Name) (s : ClientState) → client_of w.clients c ≡ Some s → is_unbroken es (a, c) ≡ true → is_named peer.id c ≡ false) where
    up_links : (number : ℕ) → leads_to_client r.node.links number ≡ true → leads_to_client (with_link r.node.links (new_link link peer)) number ≡ true
    up_links number leads =
        ap (λ o. option_map_or (λ l. not (is_router l.peer.role)) o false) (link_at_with r.node.links (new_link link peer) (sound.unique a r found) free new number)
        ∙ ap (λ t. option_map_or (λ l. not (is_router l.peer.role)) (cond t (Some (new_link link peer)) (link_at r.node.links number)) false) old
        ∙ leads
      where
        old : is_link number (new_link link peer) ≡ false
        old = false_from_ne_true (is_link number (new_link link peer)) (λ t. false≢true (
            sym (ap (λ o. option_map_or (λ l. not (is_router l.peer.role)) o false) (ap (link_at r.node.links) (sym (eqb-true link.0 number t)) ∙ free)) ∙ leads))

    pub up_clients : ClientsHold (sending (with_ends w es) a r (Up link peer) tag)
    up_clients = heard_clients w h a r found (Up link peer) tag es e.some e.whole e.up (λ x c s n client unbroken. e.wire x c s client unbroken) e.empty hears
        (all_of (λ number. leads_to_client r.node.links number ≡ true) (λ number. leads_to_client (with_link r.node.links (new_link link peer)) number ≡ true) r.node.rows up_links (h.rows a r found))
      where
        hears : (c : Name) (s : ClientState) (l : LinkPeer) → client_of w.clients c ≡ Some s → link_to (with_link r.node.links (new_link link peer)) c ≡ Some l → is_unbroken es (a, c) ≡ true →
            Hears (after r.node (Up link peer)) l.link.0 s (wire_at (end_of es (a, c)))
        hears c s l client linked unbroken =
            let old : link_to r.node.links c ≡ Some l =
            sym (link_to_with r.node.links (new_link link peer) (sound.unique a r found) free new c ∙ ap (λ t. cond t (Some (new_link link peer)) (link_to r.node.links c)) (other c s client unbroken)) ∙ linked in
            subst (λ ws. Hears (after r.node (Up link peer)) l.link.0 s ws) (sym (e.wire a c s client unbroken))
            (hears_same r.node (after r.node (Up link peer)) l.link.0 s (wire_at (end_of w.ends (a, c))) refl (h.hears a c r s l found client old (e.whole a c s client unbroken)))

  -- ---- an end goes down

  stood : (n : ℕ) (o : Option LinkPeer) (j : LinkPeer) → links.kept (λ i. not (is_link n i)) o ≡ Some j → (o ≡ Some j) × (is_link n j ≡ false)
  stood n None j e = absurd (cc)
  stood n (Some i) j e = by (is_link n i) refl e
    where
      by : (t : Bool) → is_link n i ≡ t → cond (not t) (Some i) None ≡ Some j → (Some i ≡ Some j) × (is_link n j ≡ false)
      by false t e = let one : i ≡ j = cc in (e, ap (is_link n) (sym one) ∙ t)
      by true t e = absurd (cc)

  down_links : (n number : ℕ) → (number ≡ n → ⊥) → leads_to_client r.node.links number ≡ true → leads_to_client (without_link r.node.links n) number ≡ true
  down_links n number apart leads =
      ap (λ o. option_map_or (λ l. not (is_router l.peer.role)) o false) (link_at_without r.node.links (sound.unique a r found) n number) ∙ by (link_at r.node.links number) refl leads
    where
      by : (o : Option LinkPeer) → link_at r.node.links number ≡ o → option_map_or (λ l. not (is_router l.peer.role)) o false ≡ true →
          option_map_or (λ l. not (is_router l.peer.role)) (links.kept (λ i. not (is_link n i)) o) false ≡ true
      by None e k = absurd (false≢true k)
      by (Some l) e k = ap (λ t. option_map_or (λ l. not (is_router l.peer.role)) (cond (not t) (Some l) None) false) (false_from_ne_true (is_link n l) (λ t.
          apart (sym (eqb-true l.link.0 number (find_in (λ i. is_link number i) r.node.links l e).1) ∙ eqb-true l.link.0 n t))) ∙ k

  pub down_clients : (k : LinkPeer) (tag : ℕ) → ClientsHold (sending w a r (Down k.link) tag)
  down_clients k tag = heard_clients w h a r found (Down k.link) tag w.ends (λ x c s client e. e) (λ x c s client e. e) (λ x c s client e. refl) (λ x c s n client e. refl) (λ x c s client cut was. was cut) hears
      (rows (leads_to_client r.node.links k.link.0) refl)
    where
      rows : (t : Bool) → leads_to_client r.node.links k.link.0 ≡ t → AllByRecursion (λ q. leads_to_client (without_link r.node.links k.link.0) q.link.0 ≡ true) (cond t (left r.node.rows k.link.0) r.node.rows)
      rows false e = all_of (λ number. leads_to_client r.node.links number ≡ true) (λ number. leads_to_client (without_link r.node.links k.link.0) number ≡ true) r.node.rows
          (λ number leads. down_links k.link.0 number (λ same. false≢true (sym e ∙ ap (leads_to_client r.node.links) (sym same) ∙ leads)) leads) (h.rows a r found)
      rows true e = lefts r.node.rows (h.rows a r found)
        where
          lefts : (rs : List Row) → AllByRecursion (λ q. leads_to_client r.node.links q.link.0 ≡ true) rs → AllByRecursion (λ q. leads_to_client (without_link r.node.links k.link.0) q.link.0 ≡ true) (left rs k.link.0)
          lefts [] all = tt
          lefts (q ∷ rs) all = by (q.link.0 == k.link.0) refl (lefts rs all.1)
            where
              by : (t : Bool) → (q.link.0 == k.link.0) ≡ t → AllByRecursion (λ y. leads_to_client (without_link r.node.links k.link.0) y.link.0 ≡ true) (left rs k.link.0) →
                  AllByRecursion (λ y. leads_to_client (without_link r.node.links k.link.0) y.link.0 ≡ true) (cond (not t) (q ∷ left rs k.link.0) (left rs k.link.0))
              by true t ih = ih
              by false t ih = (down_links k.link.0 q.link.0 (eqb-false q.link.0 k.link.0 t) all.0, ih)

      hears : (c : Name) (s : ClientState) (l : LinkPeer) → client_of w.clients c ≡ Some s → link_to (without_link r.node.links k.link.0) c ≡ Some l → is_unbroken w.ends (a, c) ≡ true →
          Hears (after r.node (Down k.link)) l.link.0 s (wire_at (end_of w.ends (a, c)))
      hears c s l client linked unbroken =
          let was = stood k.link.0 (link_to r.node.links c) l (sym (link_to_without r.node.links (sound.unique a r found) k.link.0 c) ∙ linked) in
          let other : k.link.0 ≡ l.link.0 → ⊥ = λ same. true≢false (sym (eq-eqb l.link.0 k.link.0 (sym same)) ∙ was.1) in
          hears_same r.node (after r.node (Down k.link)) l.link.0 s (wire_at (end_of w.ends (a, c))) (same_rows l.link.0 other (leads_to_client r.node.links k.link.0)) (h.hears a c r s l found client was.0 unbroken)
        where
          same_rows : (number : ℕ) → (k.link.0 ≡ number → ⊥) → (t : Bool) → has_rows (cond t (left r.node.rows k.link.0) r.node.rows) number ≡ has_rows r.node.rows number
          same_rows number other true = left_there r.node.rows k.link.0 number other
          same_rows number other false = refl

  -- ---- a message is handled

  pub handled_clients : (b : Name) (k : LinkPeer) → link_to r.node.links b ≡ Some k → (s : EndState) → end_of w.ends (a, b) ≡ Some s → (msg : Msg) (tag : ℕ) (xs : List Tagged) →
      s.wire ≡ record { msg = msg; tag = tag } ∷ xs → ClientsHold (sending (with_ends w (with_end w.ends (a, b) (with_wire s xs))) a r (From k.link msg) tag)
  handled_clients b k linked s at_end msg tag xs front =
      heard_clients w h a r found (From k.link msg) tag es (λ x c t client e. sym (keep is_some refl (x, c)) ∙ e) (λ x c t client e. sym (keep unbroken_at refl (x, c)) ∙ e) (λ x c t client e. keep up_at refl (x, c)) wire empty hears
      (subst (λ ls. AllByRecursion (λ q. leads_to_client ls q.link.0 ≡ true) (after r.node (From k.link msg)).rows) (sym (links_from r.node k.link msg))
      (rows_pass r.node k.link (leads_to_client r.node.links) (λ e. e) (h.rows a r found) msg))
    where
      es : Ends
      es = with_end w.ends (a, b) (with_wire s xs)

      keep : {Y : Type 0} (f : Option EndState → Y) → f (Some (with_wire s xs)) ≡ f (Some s) → (q : End) → f (end_of es q) ≡ f (end_of w.ends q)
      keep f same q = keep_with_end w.ends (a, b) (with_wire s xs) f q s at_end same

      wire_is : (x c : Name) → wire_at (end_of es (x, c)) ≡ cond (is_end (a, b) (x, c)) xs (wire_at (end_of w.ends (x, c)))
      wire_is x c = read_with_end w.ends (a, b) (with_wire s xs) wire_at (x, c) (ap is_some at_end)

      wire : (x c : Name) (t : ClientState) → is_named a x ≡ false → client_of w.clients c ≡ Some t → is_unbroken es (x, c) ≡ true → wire_at (end_of es (x, c)) ≡ wire_at (end_of w.ends (x, c))
      wire x c t n client unbroken = wire_is x c ∙ ap (λ u. cond u xs (wire_at (end_of w.ends (x, c)))) (end_parts (a, b) (x, c) ∙ ap (λ u. u && is_named b c) n)

      empty : (x c : Name) (t : ClientState) → client_of w.clients c ≡ Some t → is_unbroken es (x, c) ≡ false → (is_unbroken w.ends (x, c) ≡ false → wire_at (end_of w.ends (x, c)) ≡ []) → wire_at (end_of es (x, c)) ≡ []
      empty x c t client cut was = by (is_end (a, b) (x, c)) refl
        where
          none : wire_at (end_of w.ends (x, c)) ≡ []
          none = was (sym (keep unbroken_at refl (x, c)) ∙ cut)

          by : (u : Bool) → is_end (a, b) (x, c) ≡ u → wire_at (end_of es (x, c)) ≡ []
          by false e = wire_is x c ∙ ap (λ u. cond u xs (wire_at (end_of w.ends (x, c)))) e ∙ none
          by true e =
              let no : record { msg = msg; tag = tag } ∷ xs ≡ [] = sym front ∙ sym (ap wire_at at_end) ∙ ap (λ (q : End). wire_at (end_of w.ends q)) (same_end (a, b) (x, c) e) ∙ none in
              absurd (cc)

      known_links : AreKnown (there_in w) r.node.links
      known_links = links_known w sound a r found

      it : In k r.node.links × (k.peer.id ≡ b)
      it = linked_to r.node.links b k linked

      hears : (c : Name) (t : ClientState) (l : LinkPeer) → client_of w.clients c ≡ Some t → link_to (after r.node (From k.link msg)).links c ≡ Some l → is_unbroken es (a, c) ≡ true →
          Hears (after r.node (From k.link msg)) l.link.0 t (wire_at (end_of es (a, c)))
      hears c t l client linked' unbroken = by (is_named b c) refl
        where
          old : link_to r.node.links c ≡ Some l
          old = sym (ap (λ ls. link_to ls c) (links_from r.node k.link msg)) ∙ linked'

          before : Hears r.node l.link.0 t (wire_at (end_of w.ends (a, c)))
          before = h.hears a c r t l found client old (sym (keep unbroken_at refl (a, c)) ∙ unbroken)

          at_end_is : (u : Bool) → is_named b c ≡ u → wire_at (end_of es (a, c)) ≡ cond u xs (wire_at (end_of w.ends (a, c)))
          at_end_is u e = wire_is a c ∙ ap (λ v. cond v xs (wire_at (end_of w.ends (a, c)))) (end_parts (a, b) (a, c) ∙ ap (λ v. v && is_named b c) (same_refl a) ∙ e)

          by : (u : Bool) → is_named b c ≡ u → Hears (after r.node (From k.link msg)) l.link.0 t (wire_at (end_of es (a, c)))
          by false e =
              let its = linked_to r.node.links c l old in
              let other : k.link.0 ≡ l.link.0 → ⊥ = λ same.
              true≢false (sym (same_refl b) ∙ ap (is_named b) (sym it.1 ∙ ap (λ (q : LinkPeer). q.peer.id) (known_links.apart k l it.0 its.0 same) ∙ its.1) ∙ e) in
              subst (λ ws. Hears (after r.node (From k.link msg)) l.link.0 t ws) (sym (at_end_is false e))
              (hears_same r.node (after r.node (From k.link msg)) l.link.0 t (wire_at (end_of w.ends (a, c))) (heard_there r.node k.link l.link.0 other msg) before)
          by true e =
              let c_is : b ≡ c = same_is b c e in
              let l_is : Some k ≡ Some l = sym linked ∙ ap (link_to r.node.links) c_is ∙ old in
              let one : k ≡ l = cc in
              let first : wire_at (end_of w.ends (a, c)) ≡ record { msg = msg; tag = tag } ∷ xs = ap (λ q. wire_at (end_of w.ends (a, q))) (sym c_is) ∙ ap wire_at at_end ∙ front in
              let was : Hears r.node l.link.0 t (record { msg = msg; tag = tag } ∷ xs) = subst (λ ws. Hears r.node l.link.0 t ws) first before in
              let role : is_router k.peer.role ≡ false = known_links.roles k it.0 ∙ ap (there_in w) (it.1 ∙ c_is) ∙ h.apart c t client in
              let leads : leads_to_client r.node.links k.link.0 ≡ true = ap (λ o. option_map_or (λ j. not (is_router j.peer.role)) o false) (is_at (there_in w) r.node.links known_links k it.0) ∙ ap not role in
              let now : has_rows (after r.node (From k.link msg)).rows l.link.0 ≡ said (has_rows r.node.rows l.link.0) msg =
              subst (λ (q : LinkPeer). has_rows (after r.node (From k.link msg)).rows q.link.0 ≡ said (has_rows r.node.rows q.link.0) msg) one (heard_here r.node k.link leads msg) in
              subst (λ ws. Hears (after r.node (From k.link msg)) l.link.0 t ws) (sym (at_end_is true e))
              (record { asked = subst (λ p. AreAsked p xs) (sym now) was.asked.1; leads = ap (λ p. all_said p xs) now ∙ was.leads })

-- ---- a client is added

module _ (w : WorldState) (h : ClientsHold w) (id router : Name) (free : client_of w.clients id ≡ None) (no_router : there_in w id ≡ false)
    (home : (x : Name) → is_some (end_of w.ends (x, id)) ≡ true → router ≡ x) (up : (x : Name) → is_unbroken w.ends (x, id) ≡ true → is_up w.ends (x, id) ≡ true)
    (empty : (x : Name) → is_unbroken w.ends (x, id) ≡ false → wire_at (end_of w.ends (x, id)) ≡ [])
    (hears_new : (x : Name) (r : RouterState) (l : LinkPeer) → router_of w.routers x ≡ Some r → link_to r.node.links id ≡ Some l → is_unbroken w.ends (x, id) ≡ true → Hears r.node l.link.0 (new_client router) (wire_at (end_of w.ends (x, id)))) where
  pub client_added : ClientsHold (with_clients w (insert_entry (slice_cmp nat_cmp) w.clients id (new_client router)))
  client_added = record {
    apart = λ c s client. by c s (λ q t. there_in w q ≡ false) no_router (λ there. h.apart c s there) client;
    homes = λ x c s client some. by c s (λ q t. is_some (end_of w.ends (x, q)) ≡ true → t.router ≡ x) (home x) (λ there. h.homes x c s there) client some;
    ups = λ x c s client whole. by c s (λ q t. is_unbroken w.ends (x, q) ≡ true → is_up w.ends (x, q) ≡ true) (up x) (λ there. h.ups x c s there) client whole;
    emptied = λ x c s client cut. by c s (λ q t. is_unbroken w.ends (x, q) ≡ false → wire_at (end_of w.ends (x, q)) ≡ []) (empty x) (λ there. h.emptied x c s there) client cut;
    hears = λ x c r s l there client linked whole. by c s (λ q t. link_to r.node.links q ≡ Some l → is_unbroken w.ends (x, q) ≡ true → Hears r.node l.link.0 t (wire_at (end_of w.ends (x, q))))
        (λ on unbroken. hears_new x r l there on unbroken) (λ old on unbroken. h.hears x c r s l there old on unbroken) client linked whole;
    rows = h.rows;
  }
    where
      by : (c : Name) (s : ClientState) (P : Name → ClientState → Type 0) → P id (new_client router) → (client_of w.clients c ≡ Some s → P c s) →
          client_of (insert_entry (slice_cmp nat_cmp) w.clients id (new_client router)) c ≡ Some s → P c s
      by c s P new old client = at (is_named c id) refl (sym (value_new w.clients id c (new_client router) free) ∙ client)
        where
          at : (t : Bool) → is_named c id ≡ t → cond t (Some (new_client router)) (client_of w.clients c) ≡ Some s → P c s
          at true e there = let one : new_client router ≡ s = cc in subst (λ (q : ClientState). P c q) one (subst (λ q. P q (new_client router)) (sym (same_is c id e)) new)
          at false e there = old there
