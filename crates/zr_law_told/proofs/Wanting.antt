-- What clients want, and what their routers know of it (`Wanting`): the interests of a client's link, once its router has heard what is on its wire, are
-- those that the client's lines left. What the worlds after acts have of it stands here, and the acts one by one in `WantActs`.
use Rattle.std.proofs.Common.{◌≡◌, ℕ, Bool, true, false, cond, not, List, [], ◌∷◌, ◌++◌, Option, Some, None, is_some, refl, sym, ap, ◌∙◌, subst}
use Rattle.std.specs.Prelude.{◌&&◌}
use Rattle.std.specs.List.{list_any}
use Rattle.std.specs.Option.{option_map_or}
use Rattle.std.specs.Ordering.{nat_cmp}
use Rattle.std.specs.Cmp.Lexicographic.{slice_cmp}
use Rattle.std.specs.BTreeMap.{insert_entry}
use Rattle.std.proofs.lemmas.Bool.{true≢false}
use Rattle.std.proofs.lemmas.List.Sums.{fold-append}
use Rattle.zr_lists.proofs.Options.{not_there}
use Rattle.zr_id.specs.Zid.{is_named}
use Rattle.zr_graph.proofs.Names.{same_is, same_refl}
use Rattle.zr_msg.specs.declared.event.Event.{Event}
use Rattle.zr_msg.specs.declared.event.Event.TheVariants.{Down, From}
use Rattle.zr_msg.specs.declared.msg.Msg.{Msg}
use Rattle.zr_msg.specs.declared.peer.LinkPeer.{LinkPeer}
use Rattle.zr_msg.specs.Peer.{PeerState}
use Rattle.zr_msg.specs.declared.peer.Role.TheVariants.{Client}
use Rattle.zr_local.specs.Clients.{interests_on}
use Rattle.zr_local.specs.declared.interest.Interest.{Interest}
use Rattle.zr_script_spec.specs.declared.command.Act.{Act}
use Rattle.zr_node_spec.specs.Tables.{is_router, link_to, free_link, leads_to_client}
use Rattle.zr_node_spec.specs.State.{new_link}
use Rattle.zr_node_spec.specs.Table.{after}
use Rattle.zr_node_spec.proofs.FreeLink.{free_is_free}
use Rattle.zr_node_spec.proofs.LinksStay.{links_from}
use Rattle.zr_world_spec.specs.World.{Tagged, RouterState, EndState, ClientState, End, Ends, Routers, Clients, WorldState, with_routers, with_clients, with_ends, router_of, client_of, end_of, is_end, new_router, new_client, new_end, put_end, with_end, with_wire, lifted, lowered, sent, is_unbroken, is_taken, wire_at}
use Rattle.zr_world_spec.specs.Acts.{having_told, heard, up_event, peer_of}
use Rattle.zr_world_spec.specs.Moments.{Numbered}
use Rattle.zr_world_spec.specs.Sound.{IsSound}
use Rattle.zr_guarantee.specs.Interests.{wanted_by, interests}
use Rattle.zr_world_spec.proofs.Names.{names, value_new, read_after, read_kept}
use Rattle.zr_world_spec.proofs.Ends.{ends, read_with_end, keep_with_end, read_put_end, keep_changed}
use Rattle.zr_world_spec.proofs.Cases.{w_client, w_up, w_down, w_handle, w_sent, free_name}
use Rattle.zr_law_settled.proofs.Spreading.{Name}
use Rattle.zr_law_settled.proofs.Moving.{unbroken_at}
use Rattle.zr_law_settled.proofs.Ends.{other_end}
use Rattle.zr_law_settled.proofs.ClientRows.{ClientsHold, EndsStay}
use Rattle.zr_law_declared.proofs.Hearing.{all_heard, keep_heard, heard_router}
use Rattle.zr_law_told.proofs.Readings.{wants_of, either_router, router_new}
use Rattle.zr_law_told.proofs.Events.{leads_to_it, no_link_down, no_link_new, not_down, not_cut, links_apart, up_links, down_links}
use Rattle.zr_law_told.proofs.Interests.{noted_by, all_noted, noted_more, heard_here, heard_there, down_is, SameTests}
use Rattle.zr_law_told.proofs.Kept.{AreKept, up_kept, down_kept, from_kept}

-- ---- the invariant

-- the interests of a neighbour that a router will know, once it has heard what is on the wire
abbrev pub flow : WorldState → Name → Name → List Interest
flow w x c = all_noted (wants_of (router_of w.routers x) c) (wire_at (end_of w.ends (x, c)))

-- Routers keep interests of clients alone; a name of no client wants nothing; a client knows the ids of its interests; and what a client whose link is
-- unbroken wants is what its router will know.
pub record Wanting (acts : List Numbered) (w : WorldState) : Type 0 where
  pub kept : (x : Name) (r : RouterState) → router_of w.routers x ≡ Some r → AreKept r.node
  pub fresh : (c : Name) → client_of w.clients c ≡ None → interests acts c ≡ []
  pub ids : (c : Name) (s : ClientState) → client_of w.clients c ≡ Some s → (p : ℕ → Bool) → list_any p s.interests ≡ list_any (λ i. p i.id) (interests acts c)
  pub wants : (c : Name) (s : ClientState) → client_of w.clients c ≡ Some s → is_unbroken w.ends (s.router, c) ≡ true → SameTests (flow w s.router c) (interests acts c)

pub interests_more : (acts : List Numbered) (n : ℕ) (act : Act) (c : Name) → interests (acts ++ (n, act) ∷ []) c ≡ wanted_by c (interests acts c) act
interests_more acts n act c = fold-append (λ (so_far : List Interest) (x : Numbered). wanted_by c so_far x.1) [] acts ((n, act) ∷ [])

-- an act by which no client says anything of interests
abbrev pub IsQuiet : Act → Type 0
IsQuiet act = (c : Name) (so_far : List Interest) → wanted_by c so_far act ≡ so_far

-- clients have the same routers and the same ids of interests
pub record Lasts (s t : ClientState) : Type 0 where
  pub router : s.router ≡ t.router
  pub interests : s.interests ≡ t.interests

module _ (acts : List Numbered) (w : WorldState) (f : Wanting acts w) where
  -- ---- what is no news

  module _ (n : ℕ) (act : Act) (quiet : IsQuiet act) (v : WorldState) (kept : (x : Name) (r : RouterState) → router_of v.routers x ≡ Some r → AreKept r.node)
      (none : (c : Name) → client_of v.clients c ≡ None → client_of w.clients c ≡ None)
      (was : (c : Name) (t : ClientState) → client_of v.clients c ≡ Some t → (s : ClientState) × (client_of w.clients c ≡ Some s) × Lasts s t)
      (same : (c : Name) (s : ClientState) → client_of w.clients c ≡ Some s → is_unbroken v.ends (s.router, c) ≡ true → (is_unbroken w.ends (s.router, c) ≡ true) × (flow v s.router c ≡ flow w s.router c)) where
    stay : (c : Name) → interests (acts ++ (n, act) ∷ []) c ≡ interests acts c
    stay c = interests_more acts n act c ∙ quiet c (interests acts c)

    pub no_news : Wanting (acts ++ (n, act) ∷ []) v
    no_news = record {
      kept = kept;
      fresh = λ c e. stay c ∙ f.fresh c (none c e);
      ids = λ c t client p. let s = was c t client in ap (list_any p) (sym s.2.interests) ∙ f.ids c s.0 s.1 p ∙ ap (list_any (λ i. p i.id)) (sym (stay c));
      wants = λ c t client whole. let s = was c t client in
          subst (λ (x : Name). is_unbroken v.ends (x, c) ≡ true → SameTests (flow v x c) (interests (acts ++ (n, act) ∷ []) c)) s.2.router
          (λ u test. let k = same c s.0 s.1 u in ap (list_any test) k.1 ∙ f.wants c s.0 s.1 k.0 test ∙ ap (list_any test) (sym (stay c))) whole;
    }

  as_they_are : (c : Name) (t : ClientState) → client_of w.clients c ≡ Some t → (s : ClientState) × (client_of w.clients c ≡ Some s) × Lasts s t
  as_they_are c t client = (t, client, record { router = refl; interests = refl })

  -- what happens at ends alone
  pub by_ends : (n : ℕ) (act : Act) → IsQuiet act → (es : Ends) → EndsStay w es → Wanting (acts ++ (n, act) ∷ []) (with_ends w es)
  by_ends n act quiet es e = no_news n act quiet (with_ends w es) f.kept (λ c none. none) as_they_are
      (λ c s client whole. (e.whole s.router c s client whole, ap (all_noted (wants_of (router_of w.routers s.router) c)) (e.wire s.router c s client whole)))

  -- a router comes
  pub router_wants : (n : ℕ) (act : Act) → IsQuiet act → (id : Name) → is_taken w id ≡ false → Wanting (acts ++ (n, act) ∷ []) (with_routers w (insert_entry (slice_cmp nat_cmp) w.routers id (new_router id)))
  router_wants n act quiet id free = no_news n act quiet v
      (λ x q is. either_router (λ q. AreKept q.node) (router_of w.routers x) q (new_router id) (is_named x id) (f.kept x) (λ k away. refl) (sym (routers x) ∙ is))
      (λ c none. none) as_they_are
      (λ c s client whole. (whole, router_new (λ o. all_noted (wants_of o c) (wire_at (end_of w.ends (s.router, c)))) w.routers id none refl s.router))
    where
      v : WorldState
      v = with_routers w (insert_entry (slice_cmp nat_cmp) w.routers id (new_router id))

      none : router_of w.routers id ≡ None
      none = not_there (router_of w.routers id) (free_name w id free).0

      routers : (x : Name) → router_of v.routers x ≡ cond (is_named x id) (Some (new_router id)) (router_of w.routers x)
      routers x = value_new w.routers id x (new_router id) none

  -- ---- a client says something

  module _ (n : ℕ) (act : Act) (name : Name) (s : ClientState) (found : client_of w.clients name ≡ Some s) (e : EndState) (at_end : end_of w.ends (s.router, name) ≡ Some e) (msg : Msg) (t : ClientState)
      (home : t.router ≡ s.router) (routers : Routers) (kept : (x : Name) (r : RouterState) → router_of routers x ≡ Some r → AreKept r.node)
      (rows : (x c : Name) → wants_of (router_of routers x) c ≡ wants_of (router_of w.routers x) c) (clients : Clients)
      (clients_are : (c : Name) → client_of clients c ≡ cond (is_named name c) (Some t) (client_of w.clients c))
      (others : (c : Name) → is_named name c ≡ false → (so_far : List Interest) → wanted_by c so_far act ≡ so_far)
      (news : (A : List Interest) → SameTests A (interests acts name) → SameTests (noted_by A msg) (wanted_by name (interests acts name) act))
      (ids : (p : ℕ → Bool) → list_any p t.interests ≡ list_any (λ i. p i.id) (wanted_by name (interests acts name) act)) where
    abbrev said : WorldState
    said = with_clients (with_routers (w_sent w n name s e msg) routers) clients

    abbrev acts_then : List Numbered
    acts_then = acts ++ (n, act) ∷ []

    abbrev written : Ends
    written = with_end w.ends (s.router, name) (sent e msg n)

    whole_written : (q : End) → is_unbroken written q ≡ is_unbroken w.ends q
    whole_written q = keep_with_end w.ends (s.router, name) (sent e msg n) unbroken_at q e at_end refl

    others_stay : (c : Name) → is_named name c ≡ false → interests acts_then c ≡ interests acts c
    others_stay c other = interests_more acts n act c ∙ others c other (interests acts c)

    -- it is heard last
    its_own : is_unbroken said.ends (s.router, name) ≡ true → SameTests (flow said s.router name) (interests acts_then name)
    its_own whole test =
        ap (λ is. list_any test (all_noted is (wire_at (end_of written (s.router, name))))) (rows s.router name)
        ∙ ap (λ ws. list_any test (all_noted before ws)) wire_is
        ∙ ap (list_any test) (noted_more before e.wire (record { msg = msg; tag = n }))
        ∙ news (all_noted before e.wire) same test
        ∙ ap (list_any test) (sym (interests_more acts n act name))
      where
        before : List Interest
        before = wants_of (router_of w.routers s.router) name

        same : SameTests (all_noted before e.wire) (interests acts name)
        same g = ap (λ o. list_any g (all_noted before (wire_at o))) (sym at_end) ∙ f.wants name s found (sym (whole_written (s.router, name)) ∙ whole) g

        wire_is : wire_at (end_of written (s.router, name)) ≡ e.wire ++ record { msg = msg; tag = n } ∷ []
        wire_is = read_with_end w.ends (s.router, name) (sent e msg n) wire_at (s.router, name) (ap is_some at_end)
            ∙ ap (λ u. cond u (e.wire ++ record { msg = msg; tag = n } ∷ []) (wire_at (end_of w.ends (s.router, name)))) (ends.refl (s.router, name))

    others_flow : (c : Name) (q : ClientState) → client_of w.clients c ≡ Some q → is_named name c ≡ false → is_unbroken said.ends (q.router, c) ≡ true → SameTests (flow said q.router c) (interests acts_then c)
    others_flow c q client other whole test =
        ap (λ is. list_any test (all_noted is (wire_at (end_of written (q.router, c))))) (rows q.router c)
        ∙ ap (λ ws. list_any test (all_noted (wants_of (router_of w.routers q.router) c) ws)) (read_with_end w.ends (s.router, name) (sent e msg n) wire_at (q.router, c) (ap is_some at_end)
        ∙ ap (λ u. cond u (e.wire ++ record { msg = msg; tag = n } ∷ []) (wire_at (end_of w.ends (q.router, c)))) (other_end s.router q.router name c other))
        ∙ f.wants c q client (sym (whole_written (q.router, c)) ∙ whole) test
        ∙ ap (list_any test) (sym (others_stay c other))

    pub said_wants : Wanting (acts ++ (n, act) ∷ []) (with_clients (with_routers (w_sent w n name s e msg) routers) clients)
    said_wants = record {
      kept = kept;
      fresh = λ c none. unknown c (is_named name c) refl (sym (clients_are c) ∙ none);
      ids = λ c q client p. known c q (is_named name c) refl (sym (clients_are c) ∙ client) p;
      wants = λ c q client whole. wants c q whole (is_named name c) refl (sym (clients_are c) ∙ client);
    }
      where
        unknown : (c : Name) (b : Bool) → is_named name c ≡ b → cond b (Some t) (client_of w.clients c) ≡ None → interests acts_then c ≡ []
        unknown c true is none = absurd (true≢false (ap is_some none))
        unknown c false is none = others_stay c is ∙ f.fresh c none

        known : (c : Name) (q : ClientState) (b : Bool) → is_named name c ≡ b → cond b (Some t) (client_of w.clients c) ≡ Some q → (p : ℕ → Bool) → list_any p q.interests ≡ list_any (λ i. p i.id) (interests acts_then c)
        known c q false is client p = f.ids c q client p ∙ ap (list_any (λ i. p i.id)) (sym (others_stay c is))
        known c q true is client p =
            let one : t ≡ q = cc in
            ap (λ (z : ClientState). list_any p z.interests) (sym one) ∙ ids p ∙ ap (list_any (λ i. p i.id)) (sym (interests_more acts n act name) ∙ ap (interests acts_then) (same_is name c is))

        wants : (c : Name) (q : ClientState) → is_unbroken said.ends (q.router, c) ≡ true → (b : Bool) → is_named name c ≡ b → cond b (Some t) (client_of w.clients c) ≡ Some q → SameTests (flow said q.router c) (interests acts_then c)
        wants c q whole false is client = others_flow c q client is whole
        wants c q whole true is client =
            let one : t ≡ q = cc in
            let end_is : ◌≡◌ {A = End} (s.router, name) (q.router, c) = λ i. ((sym home ∙ ap (λ (z : ClientState). z.router) one) i, same_is name c is i) in
            subst (λ (z : End). is_unbroken said.ends z ≡ true → SameTests (flow said z.0 z.1) (interests acts_then z.1)) end_is its_own whole

  -- ---- a router hears of an event

  module _ (sound : IsSound w) (h : ClientsHold w) (a : Name) (r : RouterState) (found : router_of w.routers a ≡ Some r) where
    -- what is read of the router then
    module _ (event : Event) where
      kept_then : (routers : Routers) → ((x : Name) → router_of routers x ≡ cond (is_named a x) (Some (having_told r event)) (router_of w.routers x)) → AreKept (after r.node event) →
          (x : Name) (q : RouterState) → router_of routers x ≡ Some q → AreKept q.node
      kept_then routers are new x q is = either_router (λ q. AreKept q.node) (router_of w.routers x) q (having_told r event) (is_named a x) (f.kept x) new (sym (are x) ∙ is)

      routers_then : (tag : ℕ) (es : Ends) (x : Name) → router_of (heard (with_ends w es) a r event tag).routers x ≡ cond (is_named a x) (Some (having_told r event)) (router_of w.routers x)
      routers_then tag es x = heard_router (λ o. o) w.routers a x r event ∙ read_after (λ o. o) w.routers a x r (having_told r event) found

      wants_then : (tag : ℕ) (es : Ends) (c : Name) → wants_of (Some (having_told r event)) c ≡ wants_of (Some r) c → (x : Name) →
          wants_of (router_of (heard (with_ends w es) a r event tag).routers x) c ≡ wants_of (router_of w.routers x) c
      wants_then tag es c same x = heard_router (λ o. wants_of o c) w.routers a x r event ∙ read_kept (λ o. wants_of o c) w.routers a x r (having_told r event) found same

    module _ (n : ℕ) (act : Act) (quiet : IsQuiet act) (name : Name) (s : EndState) (at_end : end_of w.ends (a, name) ≡ Some s) where
      -- an end comes up
      module _ (down : s.up ≡ false) where
        abbrev up_ends : Ends
        up_ends = with_end w.ends (a, name) (lifted s)

        no_link : link_to r.node.links name ≡ None
        no_link = no_link_down w sound h a r found name s at_end down

        pub up_wants : Wanting (acts ++ (n, act) ∷ []) (w_up w n a name r s)
        up_wants = no_news n act quiet (w_up w n a name r s)
            (kept_then event (w_up w n a name r s).routers (routers_then event n up_ends) (up_kept r (sound.unique a r found) (f.kept a r found) (peer_of w name s.weight) no_link))
            (λ c none. none) as_they_are
            (λ c t client whole.
            let was : is_unbroken w.ends (t.router, c) ≡ true =
            sym (keep_heard up_ends a r event n unbroken_at (t.router, c) (λ e ws. refl) ∙ keep_with_end w.ends (a, name) (lifted s) unbroken_at (t.router, c) s at_end refl) ∙ whole in (
              was,
              ap (λ is. all_noted is (wire_at (end_of (w_up w n a name r s).ends (t.router, c)))) (wants_then event n up_ends c (others_want c (not_down w sound h a r found name s at_end down c t client was)) t.router)
                  ∙ ap (all_noted (wants_of (router_of w.routers t.router) c)) (keep_heard up_ends a r event n wire_at (t.router, c) (λ e ws. refl)
                  ∙ keep_with_end w.ends (a, name) (lifted s) wire_at (t.router, c) s at_end refl),
            ))
          where
            event : Event
            event = up_event r (peer_of w name s.weight)

            others_want : (c : Name) → is_named name c ≡ false → wants_of (Some (having_told r event)) c ≡ wants_of (Some r) c
            others_want c other = ap (λ (o : Option LinkPeer). option_map_or (λ l. interests_on r.node.clients l.link.0) o []) (up_links w sound h a r found (peer_of w name s.weight) no_link c
                ∙ ap (λ b. cond b (Some (new_link (record { 0 = free_link r.node.links }) (peer_of w name s.weight))) (link_to r.node.links c)) other)

      -- an end goes down, of a link that is broken
      module _ (cut : s.unbroken ≡ false) (j : LinkPeer) (linked : link_to r.node.links name ≡ Some j) where
        pub down_wants : Wanting (acts ++ (n, act) ∷ []) (w_down w n a name r j.link)
        down_wants = no_news n act quiet (w_down w n a name r j.link)
            (kept_then (Down j.link) (w_down w n a name r j.link).routers (routers_then (Down j.link) n w.ends) (down_kept r (sound.unique a r found) (f.kept a r found) j.link))
            (λ c none. none) as_they_are
            (λ c t client whole.
            let was : is_unbroken w.ends (t.router, c) ≡ true =
            sym (keep_changed half (a, name) lowered unbroken_at (t.router, c) (λ e. refl) ∙ keep_heard w.ends a r (Down j.link) n unbroken_at (t.router, c) (λ e ws. refl)) ∙ whole in (
              was,
              ap (λ is. all_noted is (wire_at (end_of (w_down w n a name r j.link).ends (t.router, c)))) (wants_then (Down j.link) n w.ends c (others_want c (not_cut w sound h a r found name s at_end cut c t client was)) t.router)
                  ∙ ap (all_noted (wants_of (router_of w.routers t.router) c)) (keep_changed half (a, name) lowered wire_at (t.router, c) (λ e. refl) ∙ keep_heard w.ends a r (Down j.link) n wire_at (t.router, c) (λ e ws. refl)),
            ))
          where
            half : Ends
            half = all_heard w.ends a r (Down j.link) n

            others_want : (c : Name) → is_named name c ≡ false → wants_of (Some (having_told r (Down j.link))) c ≡ wants_of (Some r) c
            others_want c other =
                ap (λ (o : Option LinkPeer). option_map_or (λ l. interests_on (after r.node (Down j.link)).clients l.link.0) o [])
                (down_links w sound h a r found name j linked c ∙ ap (λ b. cond b None (link_to r.node.links c)) other)
                ∙ by (link_to r.node.links c) refl
              where
                no : (t : Bool) → (t && false) ≡ false
                no true = refl
                no false = refl

                by : (o : Option LinkPeer) → link_to r.node.links c ≡ o → option_map_or (λ l. interests_on (after r.node (Down j.link)).clients l.link.0) o [] ≡ option_map_or (λ l. interests_on r.node.clients l.link.0) o []
                by None e = refl
                by (Some l) e = down_is r.node j.link l.link.0 ∙ ap (λ b. cond b [] (interests_on r.node.clients l.link.0))
                    (ap (λ b. leads_to_client r.node.links j.link.0 && b) (links_apart w sound h a r found name c j l linked e other) ∙ no (leads_to_client r.node.links j.link.0))

      -- a message is handled
      module _ (k : LinkPeer) (linked : link_to r.node.links name ≡ Some k) (msg : Msg) (tag : ℕ) (xs : List Tagged) (front : s.wire ≡ record { msg = msg; tag = tag } ∷ xs) where
        abbrev then : WorldState
        then = w_handle w a name r s k.link msg tag xs

        abbrev es : Ends
        es = with_end w.ends (a, name) (with_wire s xs)

        whole_then : (q : End) → is_unbroken then.ends q ≡ is_unbroken w.ends q
        whole_then q = keep_heard es a r (From k.link msg) tag unbroken_at q (λ e ws. refl) ∙ keep_with_end w.ends (a, name) (with_wire s xs) unbroken_at q s at_end refl

        wire_then : (q : End) → wire_at (end_of then.ends q) ≡ cond (is_end (a, name) q) xs (wire_at (end_of w.ends q))
        wire_then q = keep_heard es a r (From k.link msg) tag wire_at q (λ e ws. refl) ∙ read_with_end w.ends (a, name) (with_wire s xs) wire_at q (ap is_some at_end)

        knows_then : (c : Name) → wants_of (Some (having_told r (From k.link msg))) c ≡ option_map_or (λ l. interests_on (after r.node (From k.link msg)).clients l.link.0) (link_to r.node.links c) []
        knows_then c = ap (λ (ls : List LinkPeer). option_map_or (λ (l : LinkPeer). interests_on (after r.node (From k.link msg)).clients l.link.0) (link_to ls c) []) (links_from r.node k.link msg)

        others_want : (c : Name) → is_named name c ≡ false → wants_of (Some (having_told r (From k.link msg))) c ≡ wants_of (Some r) c
        others_want c other = knows_then c ∙ by (link_to r.node.links c) refl
          where
            by : (o : Option LinkPeer) → link_to r.node.links c ≡ o → option_map_or (λ l. interests_on (after r.node (From k.link msg)).clients l.link.0) o [] ≡ option_map_or (λ l. interests_on r.node.clients l.link.0) o []
            by None e = refl
            by (Some l) e = heard_there r.node k.link l.link.0 (λ leads. links_apart w sound h a r found name c k l linked e other) msg

        -- what was oldest on the wire of the client is in its interests
        its_flow : (t : ClientState) → client_of w.clients name ≡ Some t → flow then a name ≡ flow w a name
        its_flow t client =
            ap (λ is. all_noted is (wire_at (end_of then.ends (a, name)))) now
            ∙ ap (all_noted (noted_by (interests_on r.node.clients k.link.0) msg)) (wire_then (a, name) ∙ ap (λ b. cond b xs (wire_at (end_of w.ends (a, name)))) (ends.refl (a, name)))
            ∙ sym (ap (λ is. all_noted is (wire_at (end_of w.ends (a, name)))) was ∙ ap (all_noted (interests_on r.node.clients k.link.0)) (ap wire_at at_end ∙ front))
          where
            was : wants_of (router_of w.routers a) name ≡ interests_on r.node.clients k.link.0
            was = ap (λ o. wants_of o name) found ∙ ap (λ (o : Option LinkPeer). option_map_or (λ l. interests_on r.node.clients l.link.0) o []) linked

            now : wants_of (router_of then.routers a) name ≡ noted_by (interests_on r.node.clients k.link.0) msg
            now = ap (λ o. wants_of o name) (routers_then (From k.link msg) tag es a ∙ ap (λ b. cond b (Some (having_told r (From k.link msg))) (router_of w.routers a)) (same_refl a))
                ∙ knows_then name ∙ ap (λ (o : Option LinkPeer). option_map_or (λ l. interests_on (after r.node (From k.link msg)).clients l.link.0) o []) linked
                ∙ heard_here r.node k.link (leads_to_it w sound h a r found name t client k linked) msg

        same_then : (c : Name) (t : ClientState) → client_of w.clients c ≡ Some t → (b : Bool) → is_named name c ≡ b → flow then t.router c ≡ flow w t.router c
        same_then c t client false e =
            ap (λ is. all_noted is (wire_at (end_of then.ends (t.router, c)))) (wants_then (From k.link msg) tag es c (others_want c e) t.router)
            ∙ ap (all_noted (wants_of (router_of w.routers t.router) c)) (wire_then (t.router, c) ∙ ap (λ b. cond b xs (wire_at (end_of w.ends (t.router, c)))) (other_end a t.router name c e))
        same_then c t client true e =
            let its : client_of w.clients name ≡ Some t = ap (client_of w.clients) (same_is name c e) ∙ client in
            let home : t.router ≡ a = h.homes a name t its (ap is_some at_end) in
            ap (λ (x : Name). flow then x c) home ∙ ap (λ (y : Name). flow then a y) (sym (same_is name c e)) ∙ its_flow t its ∙ ap (λ (y : Name). flow w a y) (same_is name c e) ∙ ap (λ (x : Name). flow w x c) (sym home)

        pub handled_wants : Wanting (acts ++ (n, act) ∷ []) (w_handle w a name r s k.link msg tag xs)
        handled_wants = no_news n act quiet then
            (kept_then (From k.link msg) then.routers (routers_then (From k.link msg) tag es) (from_kept r (sound.unique a r found) (f.kept a r found) k.link msg))
            (λ c none. none) as_they_are (λ c t client whole. (sym (whole_then (t.router, c)) ∙ whole, same_then c t client (is_named name c) refl))

    -- a client comes: it wants nothing
    module _ (n : ℕ) (act : Act) (quiet : IsQuiet act) (name : Name) (free : is_taken w name ≡ false) where
      abbrev peer : PeerState
      peer = record { id = name; role = Client; weight = 1 }

      abbrev its_link : LinkPeer
      its_link = new_link (record { 0 = free_link r.node.links }) peer

      abbrev v : WorldState
      v = w_client w n name a r

      abbrev more : Ends
      more = put_end w.ends (a, name) (lifted (new_end 1))

      is_new : client_of w.clients name ≡ None
      is_new = not_there (client_of w.clients name) (free_name w name free).1

      none_yet : link_to r.node.links name ≡ None
      none_yet = no_link_new w sound h a r found name free

      links_then : (c : Name) → link_to (after r.node (up_event r peer)).links c ≡ cond (is_named name c) (Some its_link) (link_to r.node.links c)
      links_then c = up_links w sound h a r found peer none_yet c

      whole_with : (q : End) → is_unbroken v.ends q ≡ cond (is_end (a, name) q) true (is_unbroken w.ends q)
      whole_with q = keep_heard more a r (up_event r peer) n unbroken_at q (λ e ws. refl) ∙ read_put_end w.ends (a, name) (lifted (new_end 1)) unbroken_at q

      wire_with : (q : End) → wire_at (end_of v.ends q) ≡ cond (is_end (a, name) q) [] (wire_at (end_of w.ends q))
      wire_with q = keep_heard more a r (up_event r peer) n wire_at q (λ e ws. refl) ∙ read_put_end w.ends (a, name) (lifted (new_end 1)) wire_at q

      clients_with : (c : Name) → client_of v.clients c ≡ cond (is_named c name) (Some (new_client a)) (client_of w.clients c)
      clients_with c = value_new w.clients name c (new_client a) is_new

      stays : (c : Name) → interests (acts ++ (n, act) ∷ []) c ≡ interests acts c
      stays c = interests_more acts n act c ∙ quiet c (interests acts c)

      nothing : interests (acts ++ (n, act) ∷ []) name ≡ []
      nothing = stays name ∙ f.fresh name is_new

      comes : flow v a name ≡ []
      comes =
          ap (λ is. all_noted is (wire_at (end_of v.ends (a, name)))) none_known
          ∙ ap (all_noted []) (wire_with (a, name) ∙ ap (λ b. cond b [] (wire_at (end_of w.ends (a, name)))) (ends.refl (a, name)))
        where
          none_known : wants_of (router_of v.routers a) name ≡ []
          none_known = ap (λ o. wants_of o name) (routers_then (up_event r peer) n more a ∙ ap (λ b. cond b (Some (having_told r (up_event r peer))) (router_of w.routers a)) (same_refl a))
              ∙ ap (λ (o : Option LinkPeer). option_map_or (λ l. interests_on r.node.clients l.link.0) o []) (links_then name ∙ ap (λ b. cond b (Some its_link) (link_to r.node.links name)) (same_refl name))
              ∙ f.kept a r found (free_link r.node.links) (ap (λ (o : Option LinkPeer). option_map_or (λ l. not (is_router l.peer.role)) o false) (free_is_free r.node.links))

      others_flow_then : (c : Name) (t : ClientState) → client_of w.clients c ≡ Some t → is_named c name ≡ false → is_unbroken v.ends (t.router, c) ≡ true → SameTests (flow v t.router c) (interests (acts ++ (n, act) ∷ []) c)
      others_flow_then c t client apart whole test =
          ap (λ is. list_any test (all_noted is (wire_at (end_of v.ends (t.router, c))))) (wants_then (up_event r peer) n more c (ap (λ (o : Option LinkPeer). option_map_or (λ l. interests_on r.node.clients l.link.0) o [])
          (links_then c ∙ ap (λ b. cond b (Some its_link) (link_to r.node.links c)) other)) t.router)
          ∙ ap (λ ws. list_any test (all_noted (wants_of (router_of w.routers t.router) c) ws)) (wire_with (t.router, c) ∙ ap (λ b. cond b [] (wire_at (end_of w.ends (t.router, c)))) away)
          ∙ f.wants c t client (sym (whole_with (t.router, c) ∙ ap (λ b. cond b true (is_unbroken w.ends (t.router, c))) away) ∙ whole) test
          ∙ ap (list_any test) (sym (stays c))
        where
          other : is_named name c ≡ false
          other = names.symm name c ∙ apart

          away : is_end (a, name) (t.router, c) ≡ false
          away = other_end a t.router name c other

      pub client_wants : Wanting (acts ++ (n, act) ∷ []) (w_client w n name a r)
      client_wants = record {
        kept = kept_then (up_event r peer) v.routers (routers_then (up_event r peer) n more) (up_kept r (sound.unique a r found) (f.kept a r found) peer none_yet);
        fresh = λ c none. unknown c (is_named c name) refl (sym (clients_with c) ∙ none);
        ids = λ c t client p. known c t (is_named c name) refl (sym (clients_with c) ∙ client) p;
        wants = λ c t client whole. wants c t whole (is_named c name) refl (sym (clients_with c) ∙ client);
      }
        where
          unknown : (c : Name) (b : Bool) → is_named c name ≡ b → cond b (Some (new_client a)) (client_of w.clients c) ≡ None → interests (acts ++ (n, act) ∷ []) c ≡ []
          unknown c true e none = absurd (true≢false (ap is_some none))
          unknown c false e none = stays c ∙ f.fresh c none

          known : (c : Name) (t : ClientState) (b : Bool) → is_named c name ≡ b → cond b (Some (new_client a)) (client_of w.clients c) ≡ Some t → (p : ℕ → Bool) → list_any p t.interests ≡ list_any (λ i. p i.id) (interests (acts ++ (n, act) ∷ []) c)
          known c t false e client p = f.ids c t client p ∙ ap (list_any (λ i. p i.id)) (sym (stays c))
          known c t true e client p =
              let one : new_client a ≡ t = cc in
              ap (λ (z : ClientState). list_any p z.interests) (sym one) ∙ ap (list_any (λ i. p i.id)) (sym nothing ∙ ap (interests (acts ++ (n, act) ∷ [])) (sym (same_is c name e)))

          wants : (c : Name) (t : ClientState) → is_unbroken v.ends (t.router, c) ≡ true → (b : Bool) → is_named c name ≡ b → cond b (Some (new_client a)) (client_of w.clients c) ≡ Some t →
              SameTests (flow v t.router c) (interests (acts ++ (n, act) ∷ []) c)
          wants c t whole false e client = others_flow_then c t client e whole
          wants c t whole true e client =
              let one : new_client a ≡ t = cc in
              subst (λ (z : ClientState). SameTests (flow v z.router c) (interests (acts ++ (n, act) ∷ []) c)) one
              (subst (λ (y : Name). SameTests (flow v a y) (interests (acts ++ (n, act) ∷ []) y)) (sym (same_is c name e)) (λ test. ap (list_any test) (comes ∙ sym nothing)))
