-- What clients have declared, and what their routers have of it (`Flows`): what stands in the rows of a client's link, once its router has heard what
-- is on its wire, is what the client has declared, under each id. Each act keeps it: what the worlds after acts have of it stands here, and the acts
-- one by one in `FlowActs`.
use Rattle.std.proofs.Common.{◌≡◌, ℕ, Bool, true, false, cond, not, List, [], ◌∷◌, ◌++◌, Option, Some, None, is_some, refl, sym, ap, ◌∙◌, subst}
use Rattle.std.specs.Option.{option_map_or}
use Rattle.std.specs.Ordering.{nat_cmp}
use Rattle.std.specs.Cmp.Lexicographic.{slice_cmp}
use Rattle.std.specs.BTreeMap.{insert_entry}
use Rattle.std.proofs.lemmas.Bool.{true≢false, false_from_ne_true}
use Rattle.std.proofs.lemmas.List.Sums.{fold-append}
use Rattle.zr_id.specs.Zid.{is_named}
use Rattle.zr_graph.proofs.Names.{same_is, same_refl}
use Rattle.zr_msg.specs.declared.decl.Decl.{Decl}
use Rattle.zr_msg.specs.declared.decl.Kind.{Kind}
use Rattle.zr_msg.specs.declared.msg.Msg.{Msg}
use Rattle.zr_msg.specs.declared.event.Event.TheVariants.{Up, Down, From}
use Rattle.zr_msg.specs.declared.peer.LinkPeer.{LinkPeer}
use Rattle.zr_msg.specs.declared.peer.Role.TheVariants.{Client}
use Rattle.zr_script_spec.specs.declared.command.Act.{Act}
use Rattle.zr_lists.proofs.Finds.{In}
use Rattle.zr_lists.proofs.Options.{not_there}
use Rattle.zr_node_spec.specs.Tables.{is_router, link_to, free_link, leads_to_client}
use Rattle.zr_node_spec.specs.State.{new_link}
use Rattle.zr_node_spec.specs.Table.{rows_left, after}
use Rattle.zr_node_spec.proofs.FreeLink.{free_is_free}
use Rattle.zr_node_spec.proofs.LinksStay.{links_from}
use Rattle.zr_local.specs.Rows.{left}
use Rattle.zr_world_spec.specs.World.{Tagged, RouterState, EndState, ClientState, End, Ends, Routers, Clients, WorldState, with_routers, with_clients, with_ends, new_router, new_client, with_router, with_client, router_of, client_of, end_of, is_end, put_end, with_end, with_wire, lifted, lowered, new_end, is_up, is_unbroken, is_taken, sent, wire_at}
use Rattle.zr_world_spec.specs.Acts.{having_told, peer_of}
use Rattle.zr_world_spec.specs.Moments.{Numbered}
use Rattle.zr_world_spec.specs.Sound.{IsSound}
use Rattle.zr_world_spec.proofs.Names.{names, value_new, read_kept, read_after}
use Rattle.zr_world_spec.proofs.Ends.{ends, read_with_end, keep_with_end, read_put_end, keep_changed}
use Rattle.zr_world_spec.proofs.Links.{link_to_with, link_to_apart}
use Rattle.zr_world_spec.proofs.Clients.{SameClients, there_same, client_was}
use Rattle.zr_world_spec.proofs.Cases.{w_client, w_up, w_down, w_handle, w_sent, free_name}
use Rattle.zr_law_settled.proofs.Spreading.{Name}
use Rattle.zr_law_settled.proofs.Worlds.{there_in}
use Rattle.zr_law_settled.proofs.Quiet.{no_end, passes_there}
use Rattle.zr_law_settled.proofs.Moving.{up_at, unbroken_at}
use Rattle.zr_law_settled.proofs.Links.{AreKnown, linked_to, is_at}
use Rattle.zr_law_settled.proofs.Changes.{links_known}
use Rattle.zr_law_settled.proofs.Ends.{other_end}
use Rattle.zr_law_settled.proofs.ClientRows.{ClientsHold, EndsStay}
use Rattle.zr_law_declared.specs.Declared.{stands_by, stands}
use Rattle.zr_law_declared.proofs.Hearing.{all_heard, keep_heard, heard_router}
use Rattle.zr_law_declared.proofs.Told.{told, all_told, told_more, decl_at, heard_here, heard_there, left_there, none_at}

-- ---- the invariant

-- what a router's rows have of a neighbour under an id: nothing, where it has no link
abbrev pub says : Option RouterState → Name → Kind → ℕ → Option Decl
says None c kind id = None
says (Some r) c kind id = option_map_or (λ l. decl_at r.node.rows l.link.0 kind id) (link_to r.node.links c) None

-- and what they will have, once what is on its wire was heard
abbrev pub flow : WorldState → Name → Name → Kind → ℕ → Option Decl
flow w x c kind id = all_told kind id (says (router_of w.routers x) c kind id) (wire_at (end_of w.ends (x, c)))

-- A name of no client has declared nothing, and what a client whose link is unbroken has declared is what its router will have.
pub record Flows (acts : List Numbered) (w : WorldState) : Type 0 where
  pub fresh : (c : Name) → client_of w.clients c ≡ None → (kind : Kind) (id : ℕ) → stands acts c kind id ≡ None
  pub flows : (c : Name) (s : ClientState) → client_of w.clients c ≡ Some s → is_unbroken w.ends (s.router, c) ≡ true → (kind : Kind) (id : ℕ) → flow w s.router c kind id ≡ stands acts c kind id

pub stands_more : (acts : List Numbered) (n : ℕ) (act : Act) (c : Name) (kind : Kind) (id : ℕ) → stands (acts ++ (n, act) ∷ []) c kind id ≡ stands_by c kind id (stands acts c kind id) act
stands_more acts n act c kind id = fold-append (λ (so_far : Option Decl) (x : Numbered). stands_by c kind id so_far x.1) None acts ((n, act) ∷ [])

-- clients whose queries and requests alone are others
pub same_flows : (acts : List Numbered) (w : WorldState) (clients : Clients) → SameClients w.clients clients → Flows acts w → Flows acts (with_clients w clients)
same_flows acts w clients same f = record {
  fresh = λ c none kind id. f.fresh c (not_there (client_of w.clients c) (sym (there_same w.clients clients same c) ∙ ap is_some none)) kind id;
  flows = λ c t found unbroken kind id.
      let s = client_was w.clients clients same c t found in
      subst (λ (x : Name). is_unbroken w.ends (x, c) ≡ true → flow w x c kind id ≡ stands acts c kind id) (ap (λ (q : ClientState). q.router) s.2) (λ u. f.flows c s.0 s.1 u kind id) unbroken;
}

-- it goes by the rows and by the wire
flow_same : (w v : WorldState) (x c : Name) (kind : Kind) (id : ℕ) → says (router_of v.routers x) c kind id ≡ says (router_of w.routers x) c kind id → wire_at (end_of v.ends (x, c)) ≡ wire_at (end_of w.ends (x, c)) →
    flow v x c kind id ≡ flow w x c kind id
flow_same w v x c kind id rows wire = ap (λ q. all_told kind id q (wire_at (end_of v.ends (x, c)))) rows ∙ ap (all_told kind id (says (router_of w.routers x) c kind id)) wire

-- a router whose rows say the same
pub says_kept : (w : WorldState) (a : Name) (r r' : RouterState) → router_of w.routers a ≡ Some r → (c : Name) (kind : Kind) (id : ℕ) → says (Some r') c kind id ≡ says (Some r) c kind id → (x : Name) →
    says (router_of (with_router w.routers a r') x) c kind id ≡ says (router_of w.routers x) c kind id
says_kept w a r r' found c kind id same x = read_kept (λ o. says o c kind id) w.routers a x r r' found same

module _ (acts : List Numbered) (w : WorldState) (sound : IsSound w) (h : ClientsHold w) (f : Flows acts w) where
  -- ---- what is no news

  -- an act by which no client says anything of ids, and each has the same to come
  module _ (n : ℕ) (act : Act) (quiet : (c : Name) (kind : Kind) (id : ℕ) (so_far : Option Decl) → stands_by c kind id so_far act ≡ so_far) (v : WorldState)
      (clients : (c : Name) → client_of v.clients c ≡ client_of w.clients c)
      (whole : (c : Name) (s : ClientState) → client_of w.clients c ≡ Some s → is_unbroken v.ends (s.router, c) ≡ true → is_unbroken w.ends (s.router, c) ≡ true)
      (same : (c : Name) (s : ClientState) → client_of w.clients c ≡ Some s → is_unbroken v.ends (s.router, c) ≡ true → (kind : Kind) (id : ℕ) → flow v s.router c kind id ≡ flow w s.router c kind id) where
    stay : (c : Name) (kind : Kind) (id : ℕ) → stands (acts ++ (n, act) ∷ []) c kind id ≡ stands acts c kind id
    stay c kind id = stands_more acts n act c kind id ∙ quiet c kind id (stands acts c kind id)

    pub no_news : Flows (acts ++ (n, act) ∷ []) v
    no_news = record {
      fresh = λ c none kind id. stay c kind id ∙ f.fresh c (sym (clients c) ∙ none) kind id;
      flows = λ c s client unbroken kind id.
          let old = sym (clients c) ∙ client in
          same c s old unbroken kind id ∙ f.flows c s old (whole c s old unbroken) kind id ∙ sym (stay c kind id);
    }

  -- what happens at ends alone
  pub by_ends : (n : ℕ) (act : Act) → ((c : Name) (kind : Kind) (id : ℕ) (so_far : Option Decl) → stands_by c kind id so_far act ≡ so_far) → (es : Ends) → EndsStay w es → Flows (acts ++ (n, act) ∷ []) (with_ends w es)
  by_ends n act quiet es e = no_news n act quiet (with_ends w es) (λ c. refl) (λ c s client unbroken. e.whole s.router c s client unbroken)
      (λ c s client unbroken kind id. flow_same w (with_ends w es) s.router c kind id refl (e.wire s.router c s client unbroken))

  -- a router comes
  pub router_flows : (n : ℕ) (act : Act) → ((c : Name) (kind : Kind) (id : ℕ) (so_far : Option Decl) → stands_by c kind id so_far act ≡ so_far) → (name : Name) → is_taken w name ≡ false →
      Flows (acts ++ (n, act) ∷ []) (with_routers w (insert_entry (slice_cmp nat_cmp) w.routers name (new_router name)))
  router_flows n act quiet name free = no_news n act quiet (with_routers w (insert_entry (slice_cmp nat_cmp) w.routers name (new_router name))) (λ c. refl) (λ c s client unbroken. unbroken)
      (λ c s client unbroken kind id. ap (λ q. all_told kind id q (wire_at (end_of w.ends (s.router, c))))
      (ap (λ o. says o c kind id) (value_new w.routers name s.router (new_router name) none) ∙ by s.router c kind id (is_named s.router name) refl))
    where
      none : router_of w.routers name ≡ None
      none = not_there (router_of w.routers name) (free_name w name free).0

      by : (x c : Name) (kind : Kind) (id : ℕ) (b : Bool) → is_named x name ≡ b → says (cond b (Some (new_router name)) (router_of w.routers x)) c kind id ≡ says (router_of w.routers x) c kind id
      by x c kind id false e = refl
      by x c kind id true e = sym (ap (λ o. says o c kind id) (ap (router_of w.routers) (same_is x name e) ∙ none))

  -- ---- a router hears of an event

  module _ (a : Name) (r : RouterState) (found : router_of w.routers a ≡ Some r) where
    -- the links to two neighbours have two numbers
    links_apart : (b c : Name) (k l : LinkPeer) → link_to r.node.links b ≡ Some k → link_to r.node.links c ≡ Some l → is_named b c ≡ false → k.link.0 ≡ l.link.0 → ⊥
    links_apart b c k l to_b to_c other same =
        let known : AreKnown (there_in w) r.node.links = links_known w sound a r found in
        let its = linked_to r.node.links b k to_b in
        let others = linked_to r.node.links c l to_c in
        true≢false (sym (same_refl b) ∙ ap (is_named b) (sym its.1 ∙ ap (λ (q : LinkPeer). q.peer.id) (known.apart k l its.0 others.0 same) ∙ others.1) ∙ other)

    -- the client to which the router has an end is a client of that router
    home_of : (name c : Name) (t : ClientState) → client_of w.clients c ≡ Some t → is_named name c ≡ true → is_some (end_of w.ends (a, name)) ≡ true → ◌≡◌ {A = End} (t.router, c) (a, name)
    home_of name c t client same some =
        let c_is : name ≡ c = same_is name c same in
        let home : t.router ≡ a = h.homes a c t client (ap (λ y. is_some (end_of w.ends (a, y))) (sym c_is) ∙ some) in
        λ i. (home i, sym c_is i)

    module _ (n : ℕ) (act : Act) (quiet : (c : Name) (kind : Kind) (id : ℕ) (so_far : Option Decl) → stands_by c kind id so_far act ≡ so_far) (name : Name) (s : EndState) (at_end : end_of w.ends (a, name) ≡ Some s) where
      -- an end comes up, of no client whose link is unbroken
      module _ (down : s.up ≡ false) where
        abbrev up_world : WorldState
        up_world = w_up w n a name r s

        abbrev up_link : LinkPeer
        up_link = new_link (record { 0 = free_link r.node.links }) (peer_of w name s.weight)

        no_link : link_to r.node.links name ≡ None
        no_link = not_there (link_to r.node.links name) (sound.links a name r found ∙ ap up_at at_end ∙ down)

        up_whole : (q : End) → is_unbroken up_world.ends q ≡ is_unbroken w.ends q
        up_whole q = keep_heard (with_end w.ends (a, name) (lifted s)) a r (Up up_link.link up_link.peer) n unbroken_at q (λ e ws. refl) ∙ keep_with_end w.ends (a, name) (lifted s) unbroken_at q s at_end refl

        up_wire : (q : End) → wire_at (end_of up_world.ends q) ≡ wire_at (end_of w.ends q)
        up_wire q = keep_heard (with_end w.ends (a, name) (lifted s)) a r (Up up_link.link up_link.peer) n wire_at q (λ e ws. refl) ∙ keep_with_end w.ends (a, name) (lifted s) wire_at q s at_end refl

        up_other : (c : Name) (t : ClientState) → client_of w.clients c ≡ Some t → is_unbroken w.ends (t.router, c) ≡ true → is_named name c ≡ false
        up_other c t client unbroken = false_from_ne_true (is_named name c) (λ same.
            true≢false (sym (h.ups t.router c t client unbroken) ∙ ap (λ (q : End). is_up w.ends q) (home_of name c t client same (ap is_some at_end)) ∙ ap up_at at_end ∙ down))

        up_says : (c : Name) → is_named name c ≡ false → (kind : Kind) (id : ℕ) → says (Some (having_told r (Up up_link.link up_link.peer))) c kind id ≡ says (Some r) c kind id
        up_says c other kind id = ap (λ o. option_map_or (λ (l : LinkPeer). decl_at r.node.rows l.link.0 kind id) o None)
            (link_to_with r.node.links up_link (sound.unique a r found) (free_is_free r.node.links) no_link c ∙ ap (λ b. cond b (Some up_link) (link_to r.node.links c)) other)

        pub up_flows : Flows (acts ++ (n, act) ∷ []) (w_up w n a name r s)
        up_flows = no_news n act quiet up_world (λ c. refl) (λ c t client unbroken. sym (up_whole (t.router, c)) ∙ unbroken)
            (λ c t client unbroken kind id. flow_same w up_world t.router c kind id
            (heard_router (λ o. says o c kind id) w.routers a t.router r (Up up_link.link up_link.peer)
            ∙ says_kept w a r (having_told r (Up up_link.link up_link.peer)) found c kind id (up_says c (up_other c t client (sym (up_whole (t.router, c)) ∙ unbroken)) kind id) t.router)
            (up_wire (t.router, c)))

      -- an end goes down, of a link that is broken
      module _ (cut : s.unbroken ≡ false) (j : LinkPeer) (linked : link_to r.node.links name ≡ Some j) where
        abbrev down_world : WorldState
        down_world = w_down w n a name r j.link

        abbrev half : Ends
        half = all_heard w.ends a r (Down j.link) n

        down_whole : (q : End) → is_unbroken down_world.ends q ≡ is_unbroken w.ends q
        down_whole q = keep_changed half (a, name) lowered unbroken_at q (λ e. refl) ∙ keep_heard w.ends a r (Down j.link) n unbroken_at q (λ e ws. refl)

        down_wire : (q : End) → wire_at (end_of down_world.ends q) ≡ wire_at (end_of w.ends q)
        down_wire q = keep_changed half (a, name) lowered wire_at q (λ e. refl) ∙ keep_heard w.ends a r (Down j.link) n wire_at q (λ e ws. refl)

        down_other : (c : Name) (t : ClientState) → client_of w.clients c ≡ Some t → is_unbroken w.ends (t.router, c) ≡ true → is_named name c ≡ false
        down_other c t client unbroken = false_from_ne_true (is_named name c) (λ same.
            true≢false (sym unbroken ∙ ap (λ (q : End). is_unbroken w.ends q) (home_of name c t client same (ap is_some at_end)) ∙ ap unbroken_at at_end ∙ cut))

        down_says : (c : Name) → is_named name c ≡ false → (kind : Kind) (id : ℕ) → says (Some (having_told r (Down j.link))) c kind id ≡ says (Some r) c kind id
        down_says c other kind id =
            ap (λ o. option_map_or (λ (l : LinkPeer). decl_at (rows_left r.node j.link.0) l.link.0 kind id) o None)
            (link_to_apart r.node.links (sound.unique a r found) j.link.0 name j linked refl c ∙ ap (λ b. cond b None (link_to r.node.links c)) other)
            ∙ by (link_to r.node.links c) refl
          where
            left_or : (number : ℕ) → (j.link.0 ≡ number → ⊥) → (b : Bool) → decl_at (cond b (left r.node.rows j.link.0) r.node.rows) number kind id ≡ decl_at r.node.rows number kind id
            left_or number apart true = left_there r.node.rows j.link.0 number apart kind id
            left_or number apart false = refl

            by : (o : Option LinkPeer) → link_to r.node.links c ≡ o → option_map_or (λ l. decl_at (rows_left r.node j.link.0) l.link.0 kind id) o None ≡ option_map_or (λ l. decl_at r.node.rows l.link.0 kind id) o None
            by None e = refl
            by (Some l) e = left_or l.link.0 (links_apart name c j l linked e other) (leads_to_client r.node.links j.link.0)

        pub down_flows : Flows (acts ++ (n, act) ∷ []) (w_down w n a name r j.link)
        down_flows = no_news n act quiet down_world (λ c. refl) (λ c t client unbroken. sym (down_whole (t.router, c)) ∙ unbroken)
            (λ c t client unbroken kind id. flow_same w down_world t.router c kind id
            (heard_router (λ o. says o c kind id) w.routers a t.router r (Down j.link)
            ∙ says_kept w a r (having_told r (Down j.link)) found c kind id (down_says c (down_other c t client (sym (down_whole (t.router, c)) ∙ unbroken)) kind id) t.router)
            (down_wire (t.router, c)))

      -- a message is handled
      module _ (k : LinkPeer) (linked : link_to r.node.links name ≡ Some k) (msg : Msg) (tag : ℕ) (xs : List Tagged) (front : s.wire ≡ record { msg = msg; tag = tag } ∷ xs) where
        abbrev then : WorldState
        then = w_handle w a name r s k.link msg tag xs

        abbrev es : Ends
        es = with_end w.ends (a, name) (with_wire s xs)

        whole_then : (q : End) → is_unbroken then.ends q ≡ is_unbroken w.ends q
        whole_then q = keep_heard es a r (From k.link msg) tag unbroken_at q (λ e ws. refl) ∙ keep_with_end w.ends (a, name) (with_wire s xs) unbroken_at q s at_end refl

        wire_then : (q : End) → wire_at (end_of then.ends q) ≡ cond (is_end (a, name) q) xs (wire_at (end_of w.ends q))
        wire_then q = keep_heard es a r (From k.link msg) tag wire_at q (λ e ws. refl) ∙ read_with_end w.ends (a, name) (with_wire s xs) wire_at q (ap is_some at_end)

        says_then : (c : Name) (kind : Kind) (id : ℕ) → says (Some (having_told r (From k.link msg))) c kind id ≡ option_map_or (λ l. decl_at (after r.node (From k.link msg)).rows l.link.0 kind id) (link_to r.node.links c) None
        says_then c kind id = ap (λ (ls : List LinkPeer). option_map_or (λ (l : LinkPeer). decl_at (after r.node (From k.link msg)).rows l.link.0 kind id) (link_to ls c) None) (links_from r.node k.link msg)

        others_say : (c : Name) → is_named name c ≡ false → (kind : Kind) (id : ℕ) → says (Some (having_told r (From k.link msg))) c kind id ≡ says (Some r) c kind id
        others_say c other kind id = says_then c kind id ∙ by (link_to r.node.links c) refl
          where
            by : (o : Option LinkPeer) → link_to r.node.links c ≡ o → option_map_or (λ l. decl_at (after r.node (From k.link msg)).rows l.link.0 kind id) o None ≡ option_map_or (λ l. decl_at r.node.rows l.link.0 kind id) o None
            by None e = refl
            by (Some l) e = heard_there r.node k.link kind id l.link.0 (links_apart name c k l linked e other) msg

        -- what was oldest on the wire of the client is in its rows
        its_flow : (t : ClientState) → client_of w.clients name ≡ Some t → (kind : Kind) (id : ℕ) → flow then a name kind id ≡ flow w a name kind id
        its_flow t client kind id =
            ap (λ q. all_told kind id q (wire_at (end_of then.ends (a, name)))) now
            ∙ ap (all_told kind id (told kind id (decl_at r.node.rows k.link.0 kind id) msg)) (wire_then (a, name) ∙ ap (λ b. cond b xs (wire_at (end_of w.ends (a, name)))) (ends.refl (a, name)))
            ∙ sym (ap (λ q. all_told kind id q (wire_at (end_of w.ends (a, name)))) was ∙ ap (all_told kind id (decl_at r.node.rows k.link.0 kind id)) (ap wire_at at_end ∙ front))
          where
            known : AreKnown (there_in w) r.node.links
            known = links_known w sound a r found

            it : In k r.node.links × (k.peer.id ≡ name)
            it = linked_to r.node.links name k linked

            leads : leads_to_client r.node.links k.link.0 ≡ true
            leads = ap (λ o. option_map_or (λ (l : LinkPeer). not (is_router l.peer.role)) o false) (is_at (there_in w) r.node.links known k it.0)
                ∙ ap not (known.roles k it.0 ∙ ap (there_in w) it.1 ∙ h.apart name t client)

            was : says (router_of w.routers a) name kind id ≡ decl_at r.node.rows k.link.0 kind id
            was = ap (λ o. says o name kind id) found ∙ ap (λ o. option_map_or (λ (l : LinkPeer). decl_at r.node.rows l.link.0 kind id) o None) linked

            now : says (router_of then.routers a) name kind id ≡ told kind id (decl_at r.node.rows k.link.0 kind id) msg
            now = heard_router (λ o. says o name kind id) w.routers a a r (From k.link msg)
                ∙ read_after (λ o. says o name kind id) w.routers a a r (having_told r (From k.link msg)) found
                ∙ ap (λ b. cond b (says (Some (having_told r (From k.link msg))) name kind id) (says (router_of w.routers a) name kind id)) (same_refl a)
                ∙ says_then name kind id ∙ ap (λ o. option_map_or (λ (l : LinkPeer). decl_at (after r.node (From k.link msg)).rows l.link.0 kind id) o None) linked
                ∙ heard_here r.node k.link kind id leads msg

        same_then : (c : Name) (t : ClientState) → client_of w.clients c ≡ Some t → (kind : Kind) (id : ℕ) → (b : Bool) → is_named name c ≡ b → flow then t.router c kind id ≡ flow w t.router c kind id
        same_then c t client kind id false e = flow_same w then t.router c kind id
            (heard_router (λ o. says o c kind id) w.routers a t.router r (From k.link msg) ∙ says_kept w a r (having_told r (From k.link msg)) found c kind id (others_say c e kind id) t.router)
            (wire_then (t.router, c) ∙ ap (λ b. cond b xs (wire_at (end_of w.ends (t.router, c)))) (other_end a t.router name c e))
        same_then c t client kind id true e =
            let same = home_of name c t client e (ap is_some at_end) in
            subst (λ (q : End). flow then q.0 q.1 kind id ≡ flow w q.0 q.1 kind id) (sym same) (its_flow t (ap (client_of w.clients) (same_is name c e) ∙ client) kind id)

        pub handled_flows : Flows (acts ++ (n, act) ∷ []) (w_handle w a name r s k.link msg tag xs)
        handled_flows = no_news n act quiet then (λ c. refl) (λ c t client unbroken. sym (whole_then (t.router, c)) ∙ unbroken)
            (λ c t client unbroken kind id. same_then c t client kind id (is_named name c) refl)

    -- a client comes
    module _ (n : ℕ) (act : Act) (quiet : (c : Name) (kind : Kind) (id : ℕ) (so_far : Option Decl) → stands_by c kind id so_far act ≡ so_far) (name : Name) (free : is_taken w name ≡ false) where
      abbrev with_client_world : WorldState
      with_client_world = w_client w n name a r

      abbrev its_link : LinkPeer
      its_link = new_link (record { 0 = free_link r.node.links }) (record { id = name; role = Client; weight = 1 })

      abbrev more : Ends
      more = put_end w.ends (a, name) (lifted (new_end 1))

      is_new : client_of w.clients name ≡ None
      is_new = not_there (client_of w.clients name) (free_name w name free).1

      none_before : link_to r.node.links name ≡ None
      none_before = not_there (link_to r.node.links name)
          (sound.links a name r found ∙ false_from_ne_true (is_up w.ends (a, name)) (λ u. no_end w sound name free a (passes_there (λ q. q.up) w.ends (a, name) u)))

      links_then : (c : Name) → link_to (after r.node (Up its_link.link its_link.peer)).links c ≡ cond (is_named name c) (Some its_link) (link_to r.node.links c)
      links_then c = link_to_with r.node.links its_link (sound.unique a r found) (free_is_free r.node.links) none_before c

      whole_with : (q : End) → is_unbroken with_client_world.ends q ≡ cond (is_end (a, name) q) true (is_unbroken w.ends q)
      whole_with q = keep_heard more a r (Up its_link.link its_link.peer) n unbroken_at q (λ e ws. refl) ∙ read_put_end w.ends (a, name) (lifted (new_end 1)) unbroken_at q

      wire_with : (q : End) → wire_at (end_of with_client_world.ends q) ≡ cond (is_end (a, name) q) [] (wire_at (end_of w.ends q))
      wire_with q = keep_heard more a r (Up its_link.link its_link.peer) n wire_at q (λ e ws. refl) ∙ read_put_end w.ends (a, name) (lifted (new_end 1)) wire_at q

      clients_with : (c : Name) → client_of with_client_world.clients c ≡ cond (is_named c name) (Some (new_client a)) (client_of w.clients c)
      clients_with c = value_new w.clients name c (new_client a) is_new

      stays : (c : Name) (kind : Kind) (id : ℕ) → stands (acts ++ (n, act) ∷ []) c kind id ≡ stands acts c kind id
      stays c kind id = stands_more acts n act c kind id ∙ quiet c kind id (stands acts c kind id)

      -- nothing is declared, on the wire, or in the rows
      comes : (kind : Kind) (id : ℕ) → flow with_client_world a name kind id ≡ None
      comes kind id =
          ap (λ q. all_told kind id q (wire_at (end_of with_client_world.ends (a, name)))) nothing
          ∙ ap (all_told kind id None) (wire_with (a, name) ∙ ap (λ b. cond b [] (wire_at (end_of w.ends (a, name)))) (ends.refl (a, name)))
        where
          nothing : says (router_of with_client_world.routers a) name kind id ≡ None
          nothing = heard_router (λ o. says o name kind id) w.routers a a r (Up its_link.link its_link.peer)
              ∙ read_after (λ o. says o name kind id) w.routers a a r (having_told r (Up its_link.link its_link.peer)) found
              ∙ ap (λ b. cond b (says (Some (having_told r (Up its_link.link its_link.peer))) name kind id) (says (router_of w.routers a) name kind id)) (same_refl a)
              ∙ ap (λ o. option_map_or (λ (l : LinkPeer). decl_at r.node.rows l.link.0 kind id) o None) (links_then name ∙ ap (λ b. cond b (Some its_link) (link_to r.node.links name)) (same_refl name))
              ∙ none_at r.node.rows (leads_to_client r.node.links) (free_link r.node.links) (h.rows a r found)
              (ap (λ o. option_map_or (λ (l : LinkPeer). not (is_router l.peer.role)) o false) (free_is_free r.node.links)) kind id

      others_flow : (c : Name) (t : ClientState) → client_of w.clients c ≡ Some t → is_named c name ≡ false → is_unbroken with_client_world.ends (t.router, c) ≡ true → (kind : Kind) (id : ℕ) →
          flow with_client_world t.router c kind id ≡ stands acts c kind id
      others_flow c t client apart unbroken kind id =
          flow_same w with_client_world t.router c kind id
          (heard_router (λ o. says o c kind id) w.routers a t.router r (Up its_link.link its_link.peer)
          ∙ says_kept w a r (having_told r (Up its_link.link its_link.peer)) found c kind id (ap (λ o. option_map_or (λ (l : LinkPeer). decl_at r.node.rows l.link.0 kind id) o None)
          (links_then c ∙ ap (λ b. cond b (Some its_link) (link_to r.node.links c)) other)) t.router)
          (wire_with (t.router, c) ∙ ap (λ b. cond b [] (wire_at (end_of w.ends (t.router, c)))) away)
          ∙ f.flows c t client (sym (whole_with (t.router, c) ∙ ap (λ b. cond b true (is_unbroken w.ends (t.router, c))) away) ∙ unbroken) kind id
        where
          other : is_named name c ≡ false
          other = names.symm name c ∙ apart

          away : is_end (a, name) (t.router, c) ≡ false
          away = other_end a t.router name c other

      pub client_flows : Flows (acts ++ (n, act) ∷ []) (w_client w n name a r)
      client_flows = record {
        fresh = λ c none kind id. stays c kind id ∙ unknown c kind id (is_named c name) refl (sym (clients_with c) ∙ none);
        flows = λ c s client unbroken kind id. flows c s unbroken kind id (is_named c name) refl (sym (clients_with c) ∙ client) ∙ sym (stays c kind id);
      }
        where
          unknown : (c : Name) (kind : Kind) (id : ℕ) (b : Bool) → is_named c name ≡ b → cond b (Some (new_client a)) (client_of w.clients c) ≡ None → stands acts c kind id ≡ None
          unknown c kind id true e none = absurd (true≢false (ap is_some none))
          unknown c kind id false e none = f.fresh c none kind id

          flows : (c : Name) (s : ClientState) → is_unbroken with_client_world.ends (s.router, c) ≡ true → (kind : Kind) (id : ℕ) (b : Bool) → is_named c name ≡ b →
              cond b (Some (new_client a)) (client_of w.clients c) ≡ Some s → flow with_client_world s.router c kind id ≡ stands acts c kind id
          flows c s unbroken kind id false e client = others_flow c s client e unbroken kind id
          flows c s unbroken kind id true e client =
              let one : new_client a ≡ s = cc in
              subst (λ (q : ClientState). flow with_client_world q.router c kind id ≡ stands acts c kind id) one
              (subst (λ y. flow with_client_world a y kind id ≡ stands acts y kind id) (sym (same_is c name e)) (comes kind id ∙ sym (f.fresh name is_new kind id)))

  -- ---- a client says something

  module _ (n : ℕ) (act : Act) (name : Name) (s : ClientState) (found : client_of w.clients name ≡ Some s) (e : EndState) (at_end : end_of w.ends (s.router, name) ≡ Some e) (msg : Msg) where
    abbrev written : Ends
    written = with_end w.ends (s.router, name) (sent e msg n)

    whole_written : (q : End) → is_unbroken written q ≡ is_unbroken w.ends q
    whole_written q = keep_with_end w.ends (s.router, name) (sent e msg n) unbroken_at q e at_end refl

    -- nothing of ids; what it says may weigh on its router
    pub weighed_flows : ((c : Name) (kind : Kind) (id : ℕ) (so_far : Option Decl) → stands_by c kind id so_far act ≡ so_far) → ((kind : Kind) (id : ℕ) (so_far : Option Decl) → told kind id so_far msg ≡ so_far) →
        (routers : Routers) → ((x c : Name) (kind : Kind) (id : ℕ) → says (router_of routers x) c kind id ≡ says (router_of w.routers x) c kind id) →
        Flows (acts ++ (n, act) ∷ []) (with_routers (w_sent w n name s e msg) routers)
    weighed_flows quiet silent routers rows = no_news n act quiet (with_routers (w_sent w n name s e msg) routers) (λ c. refl) (λ c t client unbroken. sym (whole_written (t.router, c)) ∙ unbroken)
        (λ c t client unbroken kind id. ap (λ q. all_told kind id q (wire_at (end_of written (t.router, c)))) (rows t.router c kind id)
        ∙ keep_with_end w.ends (s.router, name) (sent e msg n) (λ o. all_told kind id (says (router_of w.routers t.router) c kind id) (wire_at o)) (t.router, c) e at_end
        (told_more kind id (says (router_of w.routers t.router) c kind id) e.wire (record { msg = msg; tag = n }) ∙ silent kind id (all_told kind id (says (router_of w.routers t.router) c kind id) e.wire)))

    pub published_flows : ((c : Name) (kind : Kind) (id : ℕ) (so_far : Option Decl) → stands_by c kind id so_far act ≡ so_far) → ((kind : Kind) (id : ℕ) (so_far : Option Decl) → told kind id so_far msg ≡ so_far) →
        Flows (acts ++ (n, act) ∷ []) (w_sent w n name s e msg)
    published_flows quiet silent = weighed_flows quiet silent w.routers (λ x c kind id. refl)

    -- a declaration, or the end of one
    module _ (s2 : ClientState) (home : s2.router ≡ s.router) (routers : Routers)
        (rows : (x c : Name) (kind : Kind) (id : ℕ) → says (router_of routers x) c kind id ≡ says (router_of w.routers x) c kind id)
        (news : (c : Name) (kind : Kind) (id : ℕ) (so_far : Option Decl) → stands_by c kind id so_far act ≡ cond (is_named c name) (told kind id so_far msg) so_far) where
      abbrev said : WorldState
      said = with_clients (with_routers (w_sent w n name s e msg) routers) (with_client w.clients name s2)

      abbrev acts_then : List Numbered
      acts_then = acts ++ (n, act) ∷ []

      clients_said : (c : Name) → client_of said.clients c ≡ cond (is_named name c) (Some s2) (client_of w.clients c)
      clients_said c = read_after (λ o. o) w.clients name c s s2 found

      stands_is : (c : Name) (kind : Kind) (id : ℕ) (b : Bool) → is_named name c ≡ b → stands acts_then c kind id ≡ cond b (told kind id (stands acts c kind id) msg) (stands acts c kind id)
      stands_is c kind id b is = stands_more acts n act c kind id ∙ news c kind id (stands acts c kind id)
          ∙ ap (λ t. cond t (told kind id (stands acts c kind id) msg) (stands acts c kind id)) (names.symm c name ∙ is)

      -- it is heard last
      its_own : is_unbroken said.ends (s.router, name) ≡ true → (kind : Kind) (id : ℕ) → flow said s.router name kind id ≡ stands acts_then name kind id
      its_own unbroken kind id =
          ap (λ q. all_told kind id q (wire_at (end_of written (s.router, name)))) (rows s.router name kind id)
          ∙ ap (all_told kind id (says (router_of w.routers s.router) name kind id)) wire_is
          ∙ told_more kind id (says (router_of w.routers s.router) name kind id) e.wire (record { msg = msg; tag = n })
          ∙ ap (λ o. told kind id o msg) (ap (all_told kind id (says (router_of w.routers s.router) name kind id)) (sym (ap wire_at at_end))
          ∙ f.flows name s found (sym (whole_written (s.router, name)) ∙ unbroken) kind id)
          ∙ sym (stands_is name kind id true (same_refl name))
        where
          wire_is : wire_at (end_of written (s.router, name)) ≡ e.wire ++ record { msg = msg; tag = n } ∷ []
          wire_is = read_with_end w.ends (s.router, name) (sent e msg n) wire_at (s.router, name) (ap is_some at_end)
              ∙ ap (λ u. cond u (e.wire ++ record { msg = msg; tag = n } ∷ []) (wire_at (end_of w.ends (s.router, name)))) (ends.refl (s.router, name))

      pub said_flows : Flows (acts ++ (n, act) ∷ []) (with_clients (with_routers (w_sent w n name s e msg) routers) (with_client w.clients name s2))
      said_flows = record {
        fresh = λ c none kind id. unknown c kind id (is_named name c) refl (sym (clients_said c) ∙ none);
        flows = λ c t client unbroken kind id. flows c t unbroken kind id (is_named name c) refl (sym (clients_said c) ∙ client);
      }
        where
          unknown : (c : Name) (kind : Kind) (id : ℕ) (b : Bool) → is_named name c ≡ b → cond b (Some s2) (client_of w.clients c) ≡ None → stands acts_then c kind id ≡ None
          unknown c kind id true is none = absurd (true≢false (ap is_some none))
          unknown c kind id false is none = stands_is c kind id false is ∙ f.fresh c none kind id

          flows : (c : Name) (t : ClientState) → is_unbroken said.ends (t.router, c) ≡ true → (kind : Kind) (id : ℕ) (b : Bool) → is_named name c ≡ b →
              cond b (Some s2) (client_of w.clients c) ≡ Some t → flow said t.router c kind id ≡ stands acts_then c kind id
          flows c t unbroken kind id false is client =
              flow_same w said t.router c kind id (rows t.router c kind id)
              (read_with_end w.ends (s.router, name) (sent e msg n) wire_at (t.router, c) (ap is_some at_end)
              ∙ ap (λ u. cond u (e.wire ++ record { msg = msg; tag = n } ∷ []) (wire_at (end_of w.ends (t.router, c)))) (other_end s.router t.router name c is))
              ∙ f.flows c t client (sym (whole_written (t.router, c)) ∙ unbroken) kind id ∙ sym (stands_is c kind id false is)
          flows c t unbroken kind id true is client =
              let one : s2 ≡ t = cc in
              let end_is : ◌≡◌ {A = End} (s.router, name) (t.router, c) = λ i. ((sym home ∙ ap (λ (q : ClientState). q.router) one) i, same_is name c is i) in
              subst (λ (q : End). is_unbroken said.ends q ≡ true → flow said q.0 q.1 kind id ≡ stands acts_then q.1 kind id) end_is (λ whole. its_own whole kind id) unbroken
