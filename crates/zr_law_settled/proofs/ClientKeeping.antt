-- Each act that is not refused keeps what holds of clients and rows (`clients_keep`); and where a world is settled, rows are those of its clients.
use Rattle.std.proofs.Common.{◌≡◌, ℕ, Bool, true, false, cond, not, List, [], ◌∷◌, ◌++◌, Option, Some, None, is_some, refl, sym, ap, ◌∙◌, subst}
use Rattle.std.specs.Prelude.{◌&&◌, IfSome, unwrap_or}
use Rattle.std.specs.List.{list_all, AllByRecursion}
use Rattle.std.specs.Option.{option_map, option_map_or}
use Rattle.std.proofs.lemmas.Bool.{true≢false, false≢true, false_from_ne_true, and_parts}
use Rattle.std.proofs.lemmas.Map.Steps.{set_value_same}
use Rattle.zr_lists.proofs.Options.{not_there}
use Rattle.zr_id.specs.Zid.{is_named}
use Rattle.zr_id.specs.declared.link.LinkNo.{LinkNo}
use Rattle.zr_graph.proofs.Names.{same_is, same_refl}
use Rattle.zr_msg.specs.declared.decl.Kind.{Kind}
use Rattle.zr_msg.specs.declared.decl.Kind.TheVariants as k
use Rattle.zr_msg.specs.declared.msg.Msg.{Msg}
use Rattle.zr_msg.specs.declared.msg.Msg.TheVariants as m
use Rattle.zr_msg.specs.Extras.{no_extras}
use Rattle.zr_msg.specs.declared.event.Event.TheVariants.{Up, Down}
use Rattle.zr_msg.specs.declared.peer.LinkPeer.{LinkPeer}
use Rattle.zr_msg.specs.Peer.{PeerState}
use Rattle.zr_msg.specs.declared.peer.Role.TheVariants.{Client}
use Rattle.zr_script_spec.specs.declared.command.Act.{Act}
use Rattle.zr_script_spec.specs.Mode.{is_current, is_future}
use Rattle.zr_script_spec.specs.declared.command.Act.TheVariants as a
use Rattle.zr_local.specs.Rows.{row_at}
use Rattle.zr_node_spec.specs.Tables.{is_router, link_to, leads_to_client, free_link}
use Rattle.zr_node_spec.specs.State.{new_link, NodeState}
use Rattle.zr_node_spec.specs.Table.{key_of, able_kind, with_link}
use Rattle.zr_node_spec.proofs.FreeLink.{free_is_free}
use Rattle.zr_told_spec.specs.Place.{class_of}
use Rattle.zr_told_spec.specs.declared.place.Class.{Class}
use Rattle.zr_told_spec.specs.declared.place.Class.TheVariants.{Subscriber, Queryable, Living}
use Rattle.zr_world_spec.specs.World.{Tagged, RouterState, EndState, ClientState, End, Ends, WorldState, with_clients, with_ends, new_client, with_client, router_of, client_of, end_of, is_end, put_end, with_end, with_queue, new_end, is_up, is_unbroken, is_taken, empty_world, lifted, lowered, sent, changed, unsettles, is_calm, is_calm_end, is_met, with_routers, with_router, wire_at}
use Rattle.zr_world_spec.specs.Acts.{outcome, peer_of, hearing, sending, has_id, declaring, undeclaring, received, weighing, ids_of}
use Rattle.zr_world_spec.specs.Moments.{Numbered, Moment, went, reached}
use Rattle.zr_world_spec.specs.Moments as moments
use Rattle.zr_world_spec.specs.Sound.{IsSound}
use Rattle.zr_world_spec.proofs.Names.{names}
use Rattle.zr_world_spec.proofs.Ends.{end_parts, same_end, read_with_end, keep_with_end, read_put_end, keep_changed, keep_all_queued}
use Rattle.zr_world_spec.proofs.Links.{link_to_with}
use Rattle.zr_world_spec.proofs.Lines.{at_some}
use Rattle.zr_world_spec.proofs.Clients.{same_received, same_home}
use Rattle.zr_world_spec.proofs.Cases.{w_sent, w_declare, w_undeclare, free_name, number_found, for_router, for_link, for_break, for_declare, for_undeclare, Says, publish_says, get_says, reply_says, end_says, for_take, for_mark, for_show, Weighs, interest_says, uninterest_says}
use Rattle.zr_world_spec.proofs.Sound.{empty_sound}
use Rattle.zr_law_settled.specs.Rows.{SettledRowsAreOfClients}
use Rattle.zr_law_settled.proofs.Told.{IsTold, told_there, told_some, told_up, told_unbroken, told_wire, router_was, of_each, w_client, w_down, w_handle, for_client, for_up, for_down, for_handle}
use Rattle.zr_law_settled.proofs.Spreading.{Name}
use Rattle.zr_law_settled.proofs.Moments.{at_moments}
use Rattle.zr_law_settled.proofs.Worlds.{there_heard, router_heard, up_heard, unbroken_heard, some_heard}
use Rattle.zr_law_settled.proofs.Quiet.{no_end, passes_there}
use Rattle.zr_law_settled.proofs.Moving.{up_at, unbroken_at}
use Rattle.zr_law_settled.proofs.Keeping.{Stands, act_stands, empty_holds}
use Rattle.zr_law_settled.proofs.Rest.{passes, met}
use Rattle.zr_law_settled.proofs.Declaring.{Ids, kind_rank, said, IsAsked, all_said, has_ids, has_is, has_declaring, has_undeclaring, has_rows, none_there}
use Rattle.zr_law_settled.proofs.ClientRows.{Hears, ClientsHold, EndsStay, ends_kept, same_hold, reads_same, linked_stay, taken_stay, cut_stay, none_stay, broken_stay, router_clients, weighed_clients, client_says, up_clients, down_clients, handled_clients, client_added}

-- ---- what is said

-- a new client has no ids
none_had : (router : Name) → (λ class i. false) ≡ has_ids (new_client router)
none_had router = λ t class i. at class i t
  where
    at : (class : Class) (i : ℕ) → false ≡ has_ids (new_client router) class i
    at Subscriber i = refl
    at Queryable i = refl
    at Living i = refl

-- a message that may be under way where a world is settled says nothing of ids
calm_said : (p : Ids) (msg : Msg) → not (unsettles msg) ≡ true → said p msg ≡ p
calm_said p (m.Sub id key) h = absurd (false≢true h)
calm_said p (m.Unsub id) h = absurd (false≢true h)
calm_said p (m.Token id key) h = absurd (false≢true h)
calm_said p (m.Untoken id) h = absurd (false≢true h)
calm_said p (m.Able id key complete) h = absurd (false≢true h)
calm_said p (m.Unable id) h = absurd (false≢true h)
calm_said p (m.Interest id current future kinds key aggregate) h = refl
calm_said p (m.EndInterest id) h = refl
calm_said p (m.ToldSub id key interest) h = refl
calm_said p (m.ToldToken id key interest) h = refl
calm_said p (m.ToldAble id key complete interest) h = refl
calm_said p (m.ToldUnsub id) h = refl
calm_said p (m.ToldUntoken id) h = refl
calm_said p (m.ToldUnable id) h = refl
calm_said p (m.ToldEnd interest) h = refl
calm_said p (m.Push tree content) h = refl
calm_said p (m.Request tree id target content) h = refl
calm_said p (m.Response id content) h = refl
calm_said p (m.Final id extras) h = refl
calm_said p (m.State links) h = refl
calm_said p (m.Step source number added decl) h = refl
calm_said p (m.Snap source number decls) h = refl

calm_all : (ws : List Tagged) (p : Ids) → list_all is_calm ws ≡ true → all_said p ws ≡ p
calm_all [] p h = refl
calm_all (x ∷ ws) p h =
    let parts = and_parts (is_calm x) (list_all is_calm ws) h in
    ap (λ q. all_said q ws) (calm_said p x.msg parts.0) ∙ calm_all ws p parts.1

-- ---- clients are told

pub clients_told : (w v : WorldState) → IsTold w v → ClientsHold w → ClientsHold v
clients_told w v t h = record {
  apart = λ c s client. told_there w v t c ∙ h.apart c s (was c s client);
  homes = λ x c s client some. h.homes x c s (was c s client) (sym (told_some w v t (x, c)) ∙ some);
  ups = λ x c s client whole. told_up w v t (x, c) ∙ h.ups x c s (was c s client) (sym (told_unbroken w v t (x, c)) ∙ whole);
  emptied = λ x c s client cut. told_wire w v t (x, c) ∙ h.emptied x c s (was c s client) (sym (told_unbroken w v t (x, c)) ∙ cut);
  hears = λ x c r s l found client linked whole.
      let q = router_was w v t x r found in
      let same : q.0.node ≡ r.node = ap (λ (z : RouterState). z.node) q.2 in
      subst (λ ws. Hears r.node l.link.0 s ws) (sym (told_wire w v t (x, c))) (subst (λ (n : NodeState). Hears n l.link.0 s (wire_at (end_of w.ends (x, c)))) same
      (h.hears x c q.0 s l q.1 (was c s client) (ap (λ (n : NodeState). link_to n.links c) same ∙ linked) (sym (told_unbroken w v t (x, c)) ∙ whole)));
  rows = of_each w v t (λ x n. AllByRecursion (λ q. leads_to_client n.links q.link.0 ≡ true) n.rows) h.rows;
}
  where
    was : (c : Name) (s : ClientState) → client_of v.clients c ≡ Some s → client_of w.clients c ≡ Some s
    was c s client = ap (λ cs. client_of cs c) (sym t.clients) ∙ client

-- ---- acts

module _ (now : Moment) (sound : IsSound now.world) (h : ClientsHold now.world) where
  abbrev w : WorldState
  w = now.world

  abbrev pub KeptClients : Moment → Type 0
  KeptClients next = ClientsHold next.world

  -- a client declares an id, or takes one back
  declares : (n : ℕ) (name : List ℕ) (kind : Kind) (id : ℕ) (key : List ℕ) (msg : Msg) (s : ClientState) → client_of w.clients name ≡ Some s → (e : EndState) → end_of w.ends (s.router, name) ≡ Some e → e.unbroken ≡ true →
      (r : RouterState) → router_of w.routers s.router ≡ Some r → (declaring s kind id).router ≡ s.router → IsAsked (has_ids s) msg → said (has_ids s) msg ≡ has_ids (declaring s kind id) →
      ClientsHold (w_declare w n name kind id key msg s e r)
  declares n name kind id key msg s found e at_end on r there home asked leads =
      weighed_clients (with_clients (with_ends w (with_end w.ends (s.router, name) (sent e msg n))) (with_client w.clients name (declaring s kind id)))
      (client_says w h name s (declaring s kind id) found e at_end msg n on home asked leads) s.router r key there

  undeclares : (n : ℕ) (name : List ℕ) (kind : Kind) (id : ℕ) (msg : Msg) (s : ClientState) → client_of w.clients name ≡ Some s → (e : EndState) → end_of w.ends (s.router, name) ≡ Some e → e.unbroken ≡ true →
      (undeclaring s kind id).router ≡ s.router → IsAsked (has_ids s) msg → said (has_ids s) msg ≡ has_ids (undeclaring s kind id) → ClientsHold (w_undeclare w n name kind id msg s e)
  undeclares n name kind id msg s found e at_end on home asked leads = client_says w h name s (undeclaring s kind id) found e at_end msg n on home asked leads

  publishes : (n : ℕ) (name : List ℕ) (msg : Msg) (s : ClientState) → client_of w.clients name ≡ Some s → (e : EndState) → end_of w.ends (s.router, name) ≡ Some e → e.unbroken ≡ true → IsAsked (has_ids s) msg → said (has_ids s) msg ≡ has_ids s →
      ClientsHold (w_sent w n name s e msg)
  publishes n name msg s found e at_end on asked leads =
      subst (λ cs. ClientsHold (with_clients (w_sent w n name s e msg) cs)) (set_value_same (is_named name) w.clients s found) (client_says w h name s s found e at_end msg n on refl asked leads)

  -- a client says something that says nothing of ids
  says : (n : ℕ) (name : List ℕ) (msg : Msg) → ((p : Ids) → IsAsked p msg) → ((p : Ids) → said p msg ≡ p) → Says now KeptClients n name msg
  says n name msg asked leads s found e at_end on clients same =
      same_hold (w_sent w n name s e msg) clients same (publishes n name msg s found e at_end on (asked (has_ids s)) (leads (has_ids s)))

  -- and it may weigh on its router
  weighs : (n : ℕ) (name key : List ℕ) (msg : Msg) → ((p : Ids) → IsAsked p msg) → ((p : Ids) → said p msg ≡ p) → Weighs now KeptClients n name key msg
  weighs n name key msg asked leads s found e at_end on r there room clients same =
      same_hold (with_routers (w_sent w n name s e msg) (with_router w.routers s.router (weighing r key))) clients same
      (weighed_clients (w_sent w n name s e msg) (publishes n name msg s found e at_end on (asked (has_ids s)) (leads (has_ids s))) s.router r key there)

  -- a client comes
  client_comes : (n : ℕ) (id router : List ℕ) (r : RouterState) → router_of w.routers router ≡ Some r → is_taken w id ≡ false → ClientsHold (w_client w n id router r)
  client_comes n id router r found free =
      client_added v (up_clients w sound h router r found link peer (free_is_free r.node.links) no_link n es stay (λ c s client unbroken. names.symm id c ∙ other c s client)) id router none.1
      (there_heard (with_ends w es) router r found (Up link peer) n id ∙ none.0) home up empty hears
    where
      link : LinkNo
      link = record { 0 = free_link r.node.links }

      peer : PeerState
      peer = record { id = id; role = Client; weight = 1 }

      es : Ends
      es = put_end w.ends (router, id) (lifted (new_end 1))

      v : WorldState
      v = sending (with_ends w es) router r (Up link peer) n

      none : (is_some (router_of w.routers id) ≡ false) × (client_of w.clients id ≡ None)
      none = let parts = free_name w id free in (parts.0, not_there (client_of w.clients id) parts.1)

      end_free : (x : Name) → is_some (end_of w.ends (x, id)) ≡ false
      end_free x = false_from_ne_true (is_some (end_of w.ends (x, id))) (no_end w sound id free x)

      no_link : link_to r.node.links id ≡ None
      no_link = not_there (link_to r.node.links id) (sound.links router id r found ∙ false_from_ne_true (is_up w.ends (router, id)) (λ u. no_end w sound id free router (passes_there (λ q. q.up) w.ends (router, id) u)))

      other : (c : Name) (s : ClientState) → client_of w.clients c ≡ Some s → is_named c id ≡ false
      other c s client = false_from_ne_true (is_named c id) (λ e. true≢false (sym (ap is_some client) ∙ ap (λ q. is_some (client_of w.clients q)) (same_is c id e) ∙ ap is_some none.1))

      read : {Y : Type 0} (f : Option EndState → Y) (q : End) → f (end_of es q) ≡ cond (is_end (router, id) q) (f (Some (lifted (new_end 1)))) (f (end_of w.ends q))
      read f q = read_put_end w.ends (router, id) (lifted (new_end 1)) f q

      apart : (x c : Name) (s : ClientState) → client_of w.clients c ≡ Some s → is_end (router, id) (x, c) ≡ false
      apart x c s client = end_parts (router, id) (x, c) ∙ ap (λ t. is_named router x && t) (names.symm id c ∙ other c s client) ∙ no (is_named router x)
        where
          no : (u : Bool) → (u && false) ≡ false
          no true = refl
          no false = refl

      same : {Y : Type 0} (f : Option EndState → Y) (x c : Name) (s : ClientState) → client_of w.clients c ≡ Some s → f (end_of es (x, c)) ≡ f (end_of w.ends (x, c))
      same f x c s client = read f (x, c) ∙ ap (λ t. cond t (f (Some (lifted (new_end 1)))) (f (end_of w.ends (x, c)))) (apart x c s client)

      stay : EndsStay w es
      stay = reads_same w es (λ x c s client. (same is_some x c s client, same unbroken_at x c s client, same up_at x c s client, same wire_at x c s client))

      -- the client's only end is that of its router
      here : (x : Name) → is_some (end_of v.ends (x, id)) ≡ true → is_end (router, id) (x, id) ≡ true
      here x some = by (is_end (router, id) (x, id)) refl
        where
          by : (t : Bool) → is_end (router, id) (x, id) ≡ t → t ≡ true
          by true e = refl
          by false e = absurd (false≢true (sym (read is_some (x, id) ∙ ap (λ t. cond t true (is_some (end_of w.ends (x, id)))) e ∙ end_free x)
              ∙ sym (some_heard (with_ends w es) router r found (Up link peer) n (x, id)) ∙ some))

      home : (x : Name) → is_some (end_of v.ends (x, id)) ≡ true → router ≡ x
      home x some = ap (λ (q : End). q.0) (same_end (router, id) (x, id) (here x some))

      up : (x : Name) → is_unbroken v.ends (x, id) ≡ true → is_up v.ends (x, id) ≡ true
      up x whole = up_heard (with_ends w es) router r found (Up link peer) n (x, id) ∙ read up_at (x, id)
          ∙ ap (λ t. cond t true (is_up w.ends (x, id))) (here x (passes_there (λ q. q.unbroken) v.ends (x, id) whole))

      wire_is : (x : Name) → wire_at (end_of v.ends (x, id)) ≡ cond (is_end (router, id) (x, id)) [] (wire_at (end_of w.ends (x, id)))
      wire_is x = keep_all_queued es router r.node (Up link peer) n wire_at (x, id) (λ s. refl) ∙ read wire_at (x, id)

      empty : (x : Name) → is_unbroken v.ends (x, id) ≡ false → wire_at (end_of v.ends (x, id)) ≡ []
      empty x cut = wire_is x ∙ by (is_end (router, id) (x, id))
        where
          none_was : wire_at (end_of w.ends (x, id)) ≡ []
          none_was = ap wire_at (not_there (end_of w.ends (x, id)) (end_free x))

          by : (t : Bool) → cond t [] (wire_at (end_of w.ends (x, id))) ≡ []
          by true = refl
          by false = none_was

      hears : (x : Name) (q : RouterState) (l : LinkPeer) → router_of v.routers x ≡ Some q → link_to q.node.links id ≡ Some l → is_unbroken v.ends (x, id) ≡ true → Hears q.node l.link.0 (new_client router) (wire_at (end_of v.ends (x, id)))
      hears x q l there linked whole =
          let x_is : router ≡ x = home x (passes_there (λ e. e.unbroken) v.ends (x, id) whole) in
          let one : Some (hearing r (Up link peer)) ≡ Some q = sym (router_heard (with_ends w es) router r found (Up link peer) n) ∙ ap (router_of v.routers) x_is ∙ there in
          let q_is : hearing r (Up link peer) ≡ q = cc in
          let on : link_to (with_link r.node.links (new_link link peer)) id ≡ Some l = ap (λ (p : RouterState). link_to p.node.links id) q_is ∙ linked in
          let l_is : Some (new_link link peer) ≡ Some l = sym (link_to_with r.node.links (new_link link peer) (sound.unique router r found) (free_is_free r.node.links) no_link id
          ∙ ap (λ t. cond t (Some (new_link link peer)) (link_to r.node.links id)) (same_refl id)) ∙ on in
          let new : new_link link peer ≡ l = cc in
          let none_rows : has_rows r.node.rows link.0 ≡ (λ class i. false) = none_there r.node.rows (leads_to_client r.node.links) link.0 (h.rows router r found)
          (ap (λ o. option_map_or (λ j. not (is_router j.peer.role)) o false) (free_is_free r.node.links)) in
          let rows : has_rows q.node.rows l.link.0 ≡ has_ids (new_client router) =
          ap (λ (p : RouterState). has_rows p.node.rows l.link.0) (sym q_is) ∙ ap (λ (j : LinkPeer). has_rows r.node.rows j.link.0) (sym new) ∙ none_rows ∙ none_had router in
          let none_on : wire_at (end_of v.ends (x, id)) ≡ [] =
          wire_is x ∙ ap (λ t. cond t [] (wire_at (end_of w.ends (x, id)))) (here x (passes_there (λ e. e.unbroken) v.ends (x, id) whole)) in
          subst (λ ws. Hears q.node l.link.0 (new_client router) ws) (sym none_on) (record { asked = tt; leads = rows })

  -- an end comes up
  end_comes_up : (n : ℕ) (router name : List ℕ) (r : RouterState) → router_of w.routers router ≡ Some r → (s : EndState) → end_of w.ends (router, name) ≡ Some s → s.up ≡ false →
      ClientsHold (sending (with_ends w (with_end w.ends (router, name) (lifted s))) router r (Up (record { 0 = free_link r.node.links }) (peer_of w name s.weight)) n)
  end_comes_up n router name r found s at_end down =
      up_clients w sound h router r found (record { 0 = free_link r.node.links }) (peer_of w name s.weight) (free_is_free r.node.links) no_link n (with_end w.ends (router, name) (lifted s)) stay other
    where
      es : Ends
      es = with_end w.ends (router, name) (lifted s)

      was_down : is_up w.ends (router, name) ≡ false
      was_down = ap up_at at_end ∙ down

      no_link : link_to r.node.links name ≡ None
      no_link = not_there (link_to r.node.links name) (sound.links router name r found ∙ was_down)

      keep : {Y : Type 0} (f : Option EndState → Y) → f (Some (lifted s)) ≡ f (Some s) → (q : End) → f (end_of es q) ≡ f (end_of w.ends q)
      keep f same q = keep_with_end w.ends (router, name) (lifted s) f q s at_end same

      -- a client's end with an unbroken link was up, so it is another one
      apart : (x c : Name) (t : ClientState) → client_of w.clients c ≡ Some t → is_unbroken w.ends (x, c) ≡ true → is_end (router, name) (x, c) ≡ false
      apart x c t client whole = false_from_ne_true (is_end (router, name) (x, c)) (λ e. false≢true (sym was_down ∙ ap (λ (q : End). is_up w.ends q) (same_end (router, name) (x, c) e) ∙ h.ups x c t client whole))

      stay : EndsStay w es
      stay = record {
        some = λ x c t client some. sym (keep is_some refl (x, c)) ∙ some;
        whole = λ x c t client whole. sym (keep unbroken_at refl (x, c)) ∙ whole;
        up = λ x c t client whole. read_with_end w.ends (router, name) (lifted s) up_at (x, c) (ap is_some at_end) ∙ ap (λ u. cond u true (is_up w.ends (x, c))) (apart x c t client (sym (keep unbroken_at refl (x, c)) ∙ whole));
        wire = λ x c t client whole. keep wire_at refl (x, c);
        empty = λ x c t client down was. keep wire_at refl (x, c) ∙ was (sym (keep unbroken_at refl (x, c)) ∙ down);
      }

      other : (c : Name) (t : ClientState) → client_of w.clients c ≡ Some t → is_unbroken es (router, c) ≡ true → is_named name c ≡ false
      other c t client whole = by (is_named name c) refl
        where
          by : (u : Bool) → is_named name c ≡ u → u ≡ false
          by false e = refl
          by true e = absurd (false≢true (sym (apart router c t client (sym (keep unbroken_at refl (router, c)) ∙ whole)) ∙ end_parts (router, name) (router, c) ∙ ap (λ u. u && is_named name c) (same_refl router) ∙ e))

  -- an end goes down, of a broken link
  end_goes_down : (n : ℕ) (router name : List ℕ) (r : RouterState) → router_of w.routers router ≡ Some r → (s : EndState) → end_of w.ends (router, name) ≡ Some s → s.unbroken ≡ false → (j : LinkPeer) →
      ClientsHold (w_down w n router name r j.link)
  end_goes_down n router name r found s at_end cut j =
      ends_kept v _ hv (cut_stay v hv v.ends router name lowered (none_stay v hv) (λ x c whole. false_from_ne_true (is_end (router, name) (x, c)) (λ e. false≢true (sym (broken x c e) ∙ whole))) clears)
    where
      v : WorldState
      v = sending w router r (Down j.link) n

      hv : ClientsHold v
      hv = down_clients w sound h router r found j n

      clears : (o : Option EndState) → unbroken_at (option_map lowered o) ≡ false → (unbroken_at o ≡ false → wire_at o ≡ []) → wire_at (option_map lowered o) ≡ []
      clears None down was = refl
      clears (Some q) down was = was down

      broken : (x c : Name) → is_end (router, name) (x, c) ≡ true → is_unbroken (changed v.ends (router, name) lowered) (x, c) ≡ false
      broken x c e =
          keep_changed v.ends (router, name) lowered unbroken_at (x, c) (λ q. refl) ∙ unbroken_heard w router r found (Down j.link) n (x, c)
          ∙ ap (λ (q : End). is_unbroken w.ends q) (sym (same_end (router, name) (x, c) e)) ∙ ap unbroken_at at_end ∙ cut

  able_said : (s : ClientState) (id : ℕ) (key : List ℕ) (complete : Bool) → said (has_ids s) (m.Able id key complete) ≡ has_ids (declaring s (able_kind complete) id)
  able_said s id key true = sym (has_declaring s k.Full id)
  able_said s id key false = sym (has_declaring s k.Able id)

  pub clients_keep : (n : ℕ) (act : Act) → IfSome (went now (outcome w n act)) KeptClients
  unfolding outcome
  clients_keep n (a.Router id) = for_router now KeptClients id (λ free room. router_clients w h id free)
  clients_keep n (a.Client id router) = for_client now KeptClients (λ w v report t. clients_told w v t) n id router (λ r found free room taken. client_comes n id router r found free)
  clients_keep n (a.Link one other weight) = for_link now KeptClients one other weight (λ apart r found q found' new room. ends_kept w _ h (linked_stay w h one other weight (ap is_some found) (ap is_some found')))
  clients_keep n (a.Up router name) = for_up now KeptClients (λ w v report t. clients_told w v t) n router name (λ r found there s at_end unbroken down taken. end_comes_up n router name r found s at_end down)
  clients_keep n (a.Break router name) = for_break now KeptClients router name (λ r found there s at_end unbroken. ends_kept w _ h (broken_stay w h router name))
  clients_keep n (a.Down router name) = for_down now KeptClients (λ w v report t. clients_told w v t) n router name (λ r found there s at_end up cut link number taken.
      let j = number_found r name link number in
      subst (λ q. ClientsHold (w_down w n router name r q)) j.2 (end_goes_down n router name r found s at_end cut j.0))
  clients_keep n (a.Sub client id key) = for_declare now KeptClients n client k.Sub id key (m.Sub id key) (λ s found fresh e at_end unbroken r there room.
      declares n client k.Sub id key (m.Sub id key) s found e at_end unbroken r there refl tt (sym (has_declaring s k.Sub id)))
  clients_keep n (a.Unsub client id) = for_undeclare now KeptClients n client k.Sub id (m.Unsub id) (λ s found known e at_end unbroken.
      undeclares n client k.Sub id (m.Unsub id) s found e at_end unbroken refl (sym (has_is s k.Sub id) ∙ known) (sym (has_undeclaring s k.Sub id)))
  clients_keep n (a.Token client id key) = for_declare now KeptClients n client k.Token id key (m.Token id key) (λ s found fresh e at_end unbroken r there room.
      declares n client k.Token id key (m.Token id key) s found e at_end unbroken r there refl tt (sym (has_declaring s k.Token id)))
  clients_keep n (a.Untoken client id) = for_undeclare now KeptClients n client k.Token id (m.Untoken id) (λ s found known e at_end unbroken.
      undeclares n client k.Token id (m.Untoken id) s found e at_end unbroken refl (sym (has_is s k.Token id) ∙ known) (sym (has_undeclaring s k.Token id)))
  clients_keep n (a.Able client id key complete) = for_declare now KeptClients n client (able_kind complete) id key (m.Able id key complete) (λ s found fresh e at_end unbroken r there room.
      declares n client (able_kind complete) id key (m.Able id key complete) s found e at_end unbroken r there (same_home s (able_kind complete) (ids_of s (able_kind complete) ++ id ∷ [])) tt (able_said s id key complete))
  clients_keep n (a.Unable client id) = for_undeclare now KeptClients n client k.Able id (m.Unable id) (λ s found known e at_end unbroken.
      undeclares n client k.Able id (m.Unable id) s found e at_end unbroken refl (sym (has_is s k.Able id) ∙ known) (sym (has_undeclaring s k.Able id)))
  clients_keep n (a.Interest client id mode kinds key aggregate) = interest_says now KeptClients n client id mode kinds key aggregate
      (says n client (m.Interest id (is_current mode) (is_future mode) kinds key aggregate) (λ p. tt) (λ p. refl)) (weighs n client (unwrap_or key []) (m.Interest id (is_current mode) (is_future mode) kinds key aggregate) (λ p. tt) (λ p. refl))
  clients_keep n (a.Uninterest client id) = uninterest_says now KeptClients n client id (says n client (m.EndInterest id) (λ p. tt) (λ p. refl))
  clients_keep n (a.Publish client content) = publish_says now KeptClients n client content (says n client (m.Push None content) (λ p. tt) (λ p. refl))
  clients_keep n (a.Get client number target content) = get_says now KeptClients n client number target content (says n client (m.Request None number target content) (λ p. tt) (λ p. refl))
  clients_keep n (a.Reply client number content) = reply_says now KeptClients n client number content (says n client (m.Response number content) (λ p. tt) (λ p. refl))
  clients_keep n (a.End client number) = end_says now KeptClients n client number (says n client (m.Final number no_extras) (λ p. tt) (λ p. refl))
  clients_keep n (a.Handle router from) = for_handle now KeptClients (λ w v report t. clients_told w v t) router from (λ r found there s at_end up msg tag xs front link number taken.
      let j = number_found r from link number in
      subst (λ q. ClientsHold (w_handle w router from r s q msg tag xs)) j.2 (handled_clients w sound h router r found from j.0 j.1 s at_end msg tag xs front))
  clients_keep n (a.Take router to) = for_take now KeptClients router to (λ r found there s at_end up unbroken msg tag xs front.
      same_hold (with_ends w (changed (with_end w.ends (router, to) (with_queue s xs)) (to, router) (λ e. sent e msg tag))) (received w.clients to msg (client_of w.clients to))
      (same_received w.clients to msg) (ends_kept w _ h (taken_stay w h router to s at_end (ap is_some found) msg tag xs)))
  clients_keep n a.Mark = for_mark now KeptClients n (λ settled joined. h)
  clients_keep n (a.Show router) = for_show now KeptClients router (λ r found. h)

-- ---- moments

pub empty_clients : ClientsHold empty_world
empty_clients = record {
  apart = λ c s client. refl;
  homes = λ x c s client some. absurd (false≢true some);
  ups = λ x c s client whole. absurd (false≢true whole);
  emptied = λ x c s client cut. refl;
  hears = λ x c r s l found client linked whole. absurd (false≢true whole);
  rows = λ x r found. absurd (cc);
}

-- a sound moment at which what holds of clients holds
pub record ClientsStand (m : Moment) : Type 0 where
  pub stands : Stands m
  pub clients : ClientsHold m.world

act_clients : (now : Moment) (n : ℕ) (act : Act) → ClientsStand now → IfSome (went now (outcome now.world n act)) ClientsStand
act_clients now n act s = both (went now (outcome now.world n act)) (act_stands now n act s.stands) (clients_keep now s.stands.sound s.clients n act)
  where
    both : (o : Option Moment) → IfSome o Stands → IfSome o (λ next. ClientsHold next.world) → IfSome o ClientsStand
    both None p k = tt
    both (Some next) p k = record { stands = p; clients = k }

pub clients_stand : (acts : List Numbered) → IfSome (reached acts) ClientsStand
clients_stand acts = at_moments ClientsStand act_clients (record { stands = record { sound = empty_sound; holds = empty_holds }; clients = empty_clients }) acts

-- ---- at rest

pub rows_are_of_clients : SettledRowsAreOfClients
rows_are_of_clients acts now x r is settled found = record { ids = ids; links = stand.clients.rows x r found }
  where
    stand : ClientsStand now
    stand = at_some ClientsStand (moments.reached acts) now is (clients_stand acts)

    ids : (name : Name) (s : ClientState) (l : LinkPeer) (kind : Kind) (id : ℕ) → client_of now.world.clients name ≡ Some s → s.router ≡ x → link_to r.node.links name ≡ Some l →
        is_some (row_at r.node.rows (key_of l.link.0 id kind)) ≡ has_id s kind id
    ids name s l kind id client home linked =
        let up : is_up now.world.ends (x, name) ≡ true = sym (stand.stands.sound.links x name r found) ∙ ap is_some linked in
        let hears = stand.clients.hears x name r s l found client linked (met now.world stand.stands.sound stand.stands.holds settled x name up).0 in
        ap (λ n. is_some (row_at r.node.rows (record { link = l.link.0; kind = n; id = id }))) (kind_rank kind)
        ∙ ap (λ p. p (class_of kind) id) (sym (calm_all (wire_at (end_of now.world.ends (x, name))) (has_rows r.node.rows l.link.0) (calm (end_of now.world.ends (x, name)) refl)) ∙ hears.leads)
        ∙ sym (has_is s kind id)
      where
        calm : (o : Option EndState) → end_of now.world.ends (x, name) ≡ o → list_all is_calm (wire_at o) ≡ true
        calm None e = refl
        calm (Some s) e = (and_parts (list_all is_calm s.wire) (list_all is_calm s.queue) (and_parts (is_met now.world (x, name) s) (is_calm_end s) (passes now.world stand.stands.sound stand.stands.holds settled (x, name) s e)).1).0
