-- Each act that is fit and not refused leaves a world where what waits may be carried, if it was so before (`act_carried`). So does
-- each router keep and hold what it may.
use Rattle.std.proofs.Common.{◌≡◌, ℕ, Bool, true, false, cond, List, [], ◌∷◌, Option, Some, None, Ok, Err, refl, sym, ap, ◌∙◌, subst}
use Rattle.std.specs.Prelude.{is_some, unwrap_or, IfOk, IfSome}
use Rattle.std.specs.List.{AllByRecursion}
use Rattle.std.specs.Ordering.{nat_cmp}
use Rattle.std.specs.Cmp.Lexicographic.{slice_cmp}
use Rattle.std.specs.BTreeMap.{insert_entry}
use Rattle.std.proofs.lemmas.Bool.{or_right}
use Rattle.zr_id.specs.Zid.{is_named}
use Rattle.zr_id.specs.declared.link.LinkNo.{LinkNo}
use Rattle.zr_lists.proofs.Each.{All-append}
use Rattle.zr_lists.proofs.Options.{not_there}
use Rattle.zr_msg.specs.declared.decl.Kind.{Kind}
use Rattle.zr_msg.specs.declared.decl.Kind.TheVariants as k
use Rattle.zr_msg.specs.declared.event.Event.{Event}
use Rattle.zr_msg.specs.declared.event.Event.TheVariants.{Down, From}
use Rattle.zr_msg.specs.declared.msg.Msg.{Msg}
use Rattle.zr_msg.specs.declared.msg.Msg.TheVariants as m
use Rattle.zr_msg.specs.declared.peer.LinkPeer.{LinkPeer}
use Rattle.zr_msg.specs.declared.peer.Role.{Role}
use Rattle.zr_msg.specs.declared.peer.Role.TheVariants.{Client, Router}
use Rattle.zr_msg.specs.Extras.{no_extras}
use Rattle.zr_script_spec.specs.declared.command.Act.{Act}
use Rattle.zr_script_spec.specs.declared.command.Act.TheVariants as a
use Rattle.zr_script_spec.specs.Mode.{is_current, is_future}
use Rattle.zr_node_spec.specs.Table.{able_kind, after, refuses}
use Rattle.zr_node_spec.specs.Tables.{is_router, link_to}
use Rattle.zr_world_spec.specs.World.{Tagged, ClientState, RouterState, EndState, End, Routers, Clients, Ends, WorldState, router_of, client_of, is_taken, end_of, with_routers, with_clients, with_ends, with_router, with_client, with_end, put_end, new_client, new_end, new_router, lifted, changed, broken, lowered, sent, with_wire, with_queue}
use Rattle.zr_world_spec.specs.Acts.{Outcome, all_queued, all_told, declaring, having_told, heard, outcome, peer_of, received, undeclaring, up_event, weighing}
use Rattle.zr_world_spec.specs.Moments.{Moment, went}
use Rattle.zr_world_spec.specs.Sound.{IsSound}
use Rattle.zr_world_spec.proofs.Cases.{w_client, w_link, w_up, w_break, w_down, w_sent, w_declare, w_undeclare, w_handle, w_take, free_name, for_router, for_client, for_link, for_up, for_break, for_down, for_declare, for_undeclare, Says, Weighs, interest_says, uninterest_says, publish_says, get_says, reply_says, end_says, for_handle, for_take, for_mark, for_show}
use Rattle.zr_world_spec.proofs.Clients.{there_same, same_received}
use Rattle.zr_world_spec.proofs.Ends.{keep_with_end}
use Rattle.zr_world_spec.proofs.Names.{names, same_name, value_after, value_new, read_kept}
use Rattle.zr_world_spec.proofs.Sound.{act_keeps}
use Rattle.zr_world_spec.proofs.Telling.{heard_is}
use Rattle.zr_law_sent.specs.Passing.{IsPassable, MayPass}
use Rattle.zr_law_sent.specs.Sent.{Comes}
use Rattle.zr_law_sent.proofs.Kept.{kept_new}
use Rattle.zr_law_calls.specs.Fitting.{IsFit}
use Rattle.zr_law_carried.specs.Carriable.{IsCarriable, IsCarried, SentTo, role_of}
use Rattle.zr_law_carried.proofs.Ends.{AreCarried, with_carried, put_carried, changed_carried}
use Rattle.zr_law_carried.proofs.Heard.{IsCarrier, AreCarriers, heard_ends, heard_carrier}

-- what waits may be carried, and each router keeps and holds what it may
abbrev pub IsCarrying : WorldState → Type 0
IsCarrying w = IsCarriable w × AreCarriers w.routers

abbrev pub Stands : WorldState → Type 0
Stands w = IsSound w × IsCarrying w

-- ---- roles and routers

-- a router's new state leaves all names as they are
module _ (routers : Routers) (x : List ℕ) (r r' : RouterState) (found : router_of routers x ≡ Some r) where
  still : (q : List ℕ) → is_some (router_of (with_router routers x r') q) ≡ is_some (router_of routers q)
  still q = read_kept is_some routers x q r r' found refl

  roles_still : (es : Ends) → AreCarried (role_of routers) es → AreCarried (role_of (with_router routers x r')) es
  roles_still es h e = subst (λ (b : Bool). IfSome (end_of es e) (λ s. IsCarried (cond b Router Client) s)) (sym (still e.1)) (h e)

  carriers_still : AreCarriers routers → IsCarrier r' → AreCarriers (with_router routers x r')
  carriers_still h k q = subst (λ (o : Option RouterState). IfSome o IsCarrier) (sym (value_after routers x q r' (ap is_some found))) (by (is_named x q))
    where
      by : (b : Bool) → IfSome (cond b (Some r') (router_of routers q)) IsCarrier
      by true = k
      by false = h q

-- an end without messages
nothing_carried : (role : Role) (s : EndState) → s.wire ≡ [] → s.queue ≡ [] → IsCarried role s
nothing_carried role s wire queue = record {
  wire = subst (λ (ts : List Tagged). AllByRecursion (λ t. MayPass role t.msg) ts) (sym wire) tt;
  queue = subst (λ (ts : List Tagged). AllByRecursion (λ t. SentTo role t.msg) ts) (sym queue) tt;
}

-- ---- acts

module _ (w : WorldState) (line : ℕ) (sound : IsSound w) (h : IsCarrying w) where
  abbrev now : Moment
  now = record { world = w; report = [] }

  abbrev role : List ℕ → Role
  role = role_of w.routers

  -- the world that an act leads to is sound
  abbrev Carries : Moment → Type 0
  Carries next = IsSound next.world → IsCarrying next.world

  router_is : (x : List ℕ) (r : RouterState) → router_of w.routers x ≡ Some r → IsCarrier r
  router_is x r found = subst (λ (o : Option RouterState). IfSome o IsCarrier) found (h.1 x)

  end_is : (e : End) (s : EndState) → end_of w.ends e ≡ Some s → IsCarried (role e.1) s
  end_is e s found = subst (λ (o : Option EndState). IfSome o (λ s. IsCarried (role e.1) s)) found (h.0.ends e)

  -- a name that is that of a client is that of no router
  client_is : (name : List ℕ) (s : ClientState) → client_of w.clients name ≡ Some s → role name ≡ Client
  client_is name s found = ap (λ b. cond b Router Client) (h.0.apart name (ap is_some found))

  -- with other ends, where each may be carried
  ends_carried : (es : Ends) → AreCarried role es → IsCarrying (with_ends w es)
  ends_carried es k = (record { ends = k; apart = h.0.apart }, h.1)

  -- with clients of the same names
  clients_carried : (v : WorldState) (clients : Clients) → ((q : List ℕ) → is_some (client_of clients q) ≡ is_some (client_of v.clients q)) → IsCarrying v → IsCarrying (with_clients v clients)
  clients_carried v clients same c = (record { ends = c.0.ends; apart = λ name e. c.0.apart name (sym (same name) ∙ e) }, c.1)

  -- with a router of which more weighs
  weighing_carried : (es : Ends) (x : List ℕ) (r : RouterState) (key : List ℕ) → router_of w.routers x ≡ Some r → AreCarried role es →
      IsCarrying (with_routers (with_ends w es) (with_router w.routers x (weighing r key)))
  weighing_carried es x r key found k =
      let r' : RouterState = weighing r key in
      let was = router_is x r found in (
        record { ends = roles_still w.routers x r r' found es k; apart = λ name e. still w.routers x r r' found name ∙ h.0.apart name e },
        carriers_still w.routers x r r' found h.1 (record { kept = was.kept; held = was.held }),
      )

  -- ---- a router hears of an event

  heard_carried : (es : Ends) (x : List ℕ) (r : RouterState) (event : Event) (tag : ℕ) (v : WorldState) → router_of w.routers x ≡ Some r → refuses r.node event ≡ None →
      Comes (λ m. IsPassable m) event → AreCarried role es → IsSound v → router_of v.routers x ≡ Some (having_told r event) →
      ((q : List ℕ) → is_some (router_of v.routers q) ≡ is_some (router_of w.routers q)) → IsCarrying (heard (with_ends w es) x r event tag)
  heard_carried es x r event tag v found taken came k s there same =
      let r' : RouterState = having_told r event in
      let unique = s.unique x r' there in
      let roles : (y : List ℕ) (l : LinkPeer) → link_to (after r.node event).links y ≡ Some l → is_router l.peer.role ≡ is_some (router_of w.routers y) =
      λ y l e. s.roles x y r' l there e ∙ same y in
      subst (λ (u : WorldState). IsCarrying u) (sym (heard_is (with_ends w es) x r event tag)) (
        record {
          ends = roles_still w.routers x r r' found (all_told (all_queued es x r.node event tag) x r event tag)
              (heard_ends w.routers r event (router_is x r found) taken came unique roles es x tag k);
          apart = λ name e. still w.routers x r r' found name ∙ h.0.apart name e;
        },
        carriers_still w.routers x r r' found h.1 (heard_carrier w.routers r event (router_is x r found) taken came unique roles),
      )

  -- the router is as it has heard, in the world that it leaves
  heard_router : (es : Ends) (x : List ℕ) (r : RouterState) (event : Event) (tag : ℕ) → router_of w.routers x ≡ Some r →
      router_of (heard (with_ends w es) x r event tag).routers x ≡ Some (having_told r event)
  heard_router es x r event tag found =
      ap (λ (v : WorldState). router_of v.routers x) (heard_is (with_ends w es) x r event tag)
      ∙ value_after w.routers x x (having_told r event) (ap is_some found)
      ∙ ap (λ b. cond b (Some (having_told r event)) (router_of w.routers x)) (names.refl x)

  heard_names : (es : Ends) (x : List ℕ) (r : RouterState) (event : Event) (tag : ℕ) → router_of w.routers x ≡ Some r → (q : List ℕ) →
      is_some (router_of (heard (with_ends w es) x r event tag).routers q) ≡ is_some (router_of w.routers q)
  heard_names es x r event tag found q =
      ap (λ (v : WorldState). is_some (router_of v.routers q)) (heard_is (with_ends w es) x r event tag) ∙ still w.routers x r (having_told r event) found q

  -- ---- a client sends

  sent_carried : (name : List ℕ) (s : ClientState) (e : EndState) (msg : Msg) → client_of w.clients name ≡ Some s → end_of w.ends (s.router, name) ≡ Some e → MayPass Client msg →
      AreCarried role (with_end w.ends (s.router, name) (sent e msg line))
  sent_carried name s e msg es ee may =
      let was = end_is (s.router, name) e ee in
      with_carried role w.ends (s.router, name) (sent e msg line) (ap is_some ee) h.0.ends (record {
        wire = All-append (λ (t : Tagged). MayPass (role name) t.msg) e.wire (record { msg = msg; tag = line } ∷ []) was.wire (subst (λ (r : Role). MayPass r msg) (sym (client_is name s es)) may, tt);
        queue = was.queue;
      })

  says_carried : (name : List ℕ) (msg : Msg) → MayPass Client msg → Says now Carries line name msg
  says_carried name msg may s es e ee unbroken clients alike snd =
      clients_carried (w_sent w line name s e msg) clients (there_same w.clients clients alike) (ends_carried (with_end w.ends (s.router, name) (sent e msg line)) (sent_carried name s e msg es ee may))

  weighs_carried : (name key : List ℕ) (msg : Msg) → MayPass Client msg → Weighs now Carries line name key msg
  weighs_carried name key msg may s es e ee unbroken r er room clients alike snd =
      clients_carried (with_routers (w_sent w line name s e msg) (with_router w.routers s.router (weighing r key))) clients (there_same w.clients clients alike)
      (weighing_carried (with_end w.ends (s.router, name) (sent e msg line)) s.router r key er (sent_carried name s e msg es ee may))

  declare_carried : (name : List ℕ) (kind : Kind) (id : ℕ) (key : List ℕ) (msg : Msg) → MayPass Client msg → (s : ClientState) → client_of w.clients name ≡ Some s →
      (e : EndState) → end_of w.ends (s.router, name) ≡ Some e → (r : RouterState) → router_of w.routers s.router ≡ Some r → IsCarrying (w_declare w line name kind id key msg s e r)
  declare_carried name kind id key msg may s es e ee r er =
      clients_carried (with_routers (w_sent w line name s e msg) (with_router w.routers s.router (weighing r key))) (with_client w.clients name (declaring s kind id))
      (λ q. read_kept is_some w.clients name q s (declaring s kind id) es refl)
      (weighing_carried (with_end w.ends (s.router, name) (sent e msg line)) s.router r key er (sent_carried name s e msg es ee may))

  undeclare_carried : (name : List ℕ) (kind : Kind) (id : ℕ) (msg : Msg) → MayPass Client msg → (s : ClientState) → client_of w.clients name ≡ Some s →
      (e : EndState) → end_of w.ends (s.router, name) ≡ Some e → IsCarrying (w_undeclare w line name kind id msg s e)
  undeclare_carried name kind id msg may s es e ee =
      clients_carried (w_sent w line name s e msg) (with_client w.clients name (undeclaring s kind id)) (λ q. read_kept is_some w.clients name q s (undeclaring s kind id) es refl)
      (ends_carried (with_end w.ends (s.router, name) (sent e msg line)) (sent_carried name s e msg es ee may))

  -- ---- new routers, clients and links

  other_name : (id q : List ℕ) → is_taken w id ≡ false → is_taken w q ≡ true → is_named q id ≡ false
  other_name id q free taken = by (is_named q id) refl
    where
      by : (b : Bool) → is_named q id ≡ b → b ≡ false
      by false e = refl
      by true e = sym taken ∙ ap (is_taken w) (same_name q id e) ∙ free

  router_carried : (id : List ℕ) → is_taken w id ≡ false → IsCarrying (with_routers w (insert_entry (slice_cmp nat_cmp) w.routers id (new_router id)))
  router_carried id free = (
    record {
      ends = λ e. at_end e (end_of w.ends e) refl (h.0.ends e);
      apart = λ name e. ap is_some (is_other name (or_right (is_some (router_of w.routers name)) (is_some (client_of w.clients name)) e)) ∙ h.0.apart name e;
    },
    λ q. subst (λ (o : Option RouterState). IfSome o IsCarrier) (sym (is q)) (by q (is_named q id) (h.1 q)),
  )
    where
      more : Routers
      more = insert_entry (slice_cmp nat_cmp) w.routers id (new_router id)

      is : (q : List ℕ) → router_of more q ≡ cond (is_named q id) (Some (new_router id)) (router_of w.routers q)
      is q = value_new w.routers id q (new_router id) (not_there (router_of w.routers id) (free_name w id free).0)

      -- names that were taken are as they were
      is_other : (q : List ℕ) → is_taken w q ≡ true → router_of more q ≡ router_of w.routers q
      is_other q taken = is q ∙ ap (λ b. cond b (Some (new_router id)) (router_of w.routers q)) (other_name id q free taken)

      by : (q : List ℕ) (b : Bool) → IfSome (router_of w.routers q) IsCarrier → IfSome (cond b (Some (new_router id)) (router_of w.routers q)) IsCarrier
      by q true k = record { kept = kept_new id; held = tt }
      by q false k = k

      at_end : (e : End) (o : Option EndState) → end_of w.ends e ≡ o → IfSome o (λ s. IsCarried (role e.1) s) → IfSome o (λ s. IsCarried (role_of more e.1) s)
      at_end e None there k = tt
      at_end e (Some s) there k =
          subst (λ (o : Option RouterState). IsCarried (cond (is_some o) Router Client) s) (sym (is_other e.1 (sound.neighbours e.0 e.1 (ap is_some there)))) k

  new_carried : (role : Role) (weight : ℕ) → IsCarried role (new_end weight)
  new_carried role weight = record { wire = tt; queue = tt }

  link_carried : (one other : List ℕ) (weight : ℕ) → IsCarrying (w_link w one other weight)
  link_carried one other weight =
      ends_carried (put_end (put_end w.ends (one, other) (new_end weight)) (other, one) (new_end weight))
      (put_carried role (put_end w.ends (one, other) (new_end weight)) (other, one) (new_end weight)
      (put_carried role w.ends (one, other) (new_end weight) h.0.ends (new_carried (role other) weight)) (new_carried (role one) weight))

  client_carried : (id router : List ℕ) (r : RouterState) → router_of w.routers router ≡ Some r → is_taken w id ≡ false →
      refuses r.node (up_event r (record { id = id; role = Client; weight = 1 })) ≡ None → IsSound (w_client w line id router r) → IsCarrying (w_client w line id router r)
  client_carried id router r er free taken snd =
      let c = heard_carried es router r event line (w_client w line id router r) er taken tt (put_carried role w.ends (router, id) (lifted (new_end 1)) h.0.ends (record { wire = tt; queue = tt })) snd
      (heard_router es router r event line er) (heard_names es router r event line er) in (
        record { ends = c.0.ends; apart = λ name e. heard_names es router r event line er name ∙ by name (is_named name id) refl (sym (ap is_some (is name)) ∙ e) },
        c.1,
      )
    where
      event : Event
      event = up_event r (record { id = id; role = Client; weight = 1 })

      es : Ends
      es = put_end w.ends (router, id) (lifted (new_end 1))

      clients : Clients
      clients = insert_entry (slice_cmp nat_cmp) w.clients id (new_client router)

      is : (q : List ℕ) → client_of clients q ≡ cond (is_named q id) (Some (new_client router)) (client_of w.clients q)
      is q = value_new w.clients id q (new_client router) (not_there (client_of w.clients id) (free_name w id free).1)

      by : (name : List ℕ) (b : Bool) → is_named name id ≡ b → is_some (cond b (Some (new_client router)) (client_of w.clients name)) ≡ true → is_some (router_of w.routers name) ≡ false
      by name true same e = ap (λ q. is_some (router_of w.routers q)) (same_name name id same) ∙ (free_name w id free).0
      by name false same e = h.0.apart name e

  -- ---- links

  up_carried : (router name : List ℕ) (r : RouterState) → router_of w.routers router ≡ Some r → (s : EndState) → end_of w.ends (router, name) ≡ Some s →
      refuses r.node (up_event r (peer_of w name s.weight)) ≡ None → IsSound (w_up w line router name r s) → IsCarrying (w_up w line router name r s)
  up_carried router name r er s es taken snd =
      let was = end_is (router, name) s es in
      let up : Ends = with_end w.ends (router, name) (lifted s) in
      let event : Event = up_event r (peer_of w name s.weight) in
      heard_carried up router r event line (w_up w line router name r s) er taken tt
      (with_carried role w.ends (router, name) (lifted s) (ap is_some es) h.0.ends (record { wire = was.wire; queue = was.queue })) snd
      (heard_router up router r event line er) (heard_names up router r event line er)

  break_carried : (router name : List ℕ) → IsCarrying (w_break w router name)
  break_carried router name =
      ends_carried (changed (changed w.ends (router, name) broken) (name, router) broken)
      (changed_carried role (changed w.ends (router, name) broken) (name, router) broken (λ s there k. record { wire = tt; queue = k.queue })
      (changed_carried role w.ends (router, name) broken (λ s there k. record { wire = tt; queue = k.queue }) h.0.ends))

  down_carried : (router name : List ℕ) (r : RouterState) → router_of w.routers router ≡ Some r → (l : LinkNo) → refuses r.node (Down l) ≡ None →
      IsSound (w_down w line router name r l) → IsCarrying (w_down w line router name r l)
  down_carried router name r er l taken snd =
      let v : WorldState = heard w router r (Down l) line in
      let c = heard_carried w.ends router r (Down l) line (w_down w line router name r l) er taken tt h.0.ends snd
      (heard_router w.ends router r (Down l) line er) (heard_names w.ends router r (Down l) line er) in (
        record {
          ends = changed_carried (role_of v.routers) v.ends (router, name) lowered (λ s there k. record { wire = k.wire; queue = tt }) c.0.ends;
          apart = c.0.apart;
        },
        c.1,
      )

  -- ---- steps

  handle_carried : (router from : List ℕ) (r : RouterState) → router_of w.routers router ≡ Some r → (s : EndState) → end_of w.ends (router, from) ≡ Some s →
      (msg : Msg) (tag : ℕ) (xs : List Tagged) → s.wire ≡ record { msg = msg; tag = tag } ∷ xs → (l : LinkNo) → refuses r.node (From l msg) ≡ None →
      IsSound (w_handle w router from r s l msg tag xs) → IsCarrying (w_handle w router from r s l msg tag xs)
  handle_carried router from r er s es msg tag xs front l taken snd =
      let was = end_is (router, from) s es in
      let wire : AllByRecursion (λ (t : Tagged). MayPass (role from) t.msg) (record { msg = msg; tag = tag } ∷ xs) =
      subst (λ (ts : List Tagged). AllByRecursion (λ t. MayPass (role from) t.msg) ts) front was.wire in
      let rest : Ends = with_end w.ends (router, from) (with_wire s xs) in
      heard_carried rest router r (From l msg) tag (w_handle w router from r s l msg tag xs) er taken wire.0.1
      (with_carried role w.ends (router, from) (with_wire s xs) (ap is_some es) h.0.ends (record { wire = wire.1; queue = was.queue })) snd
      (heard_router rest router r (From l msg) tag er) (heard_names rest router r (From l msg) tag er)

  take_carried : (router to : List ℕ) (r : RouterState) → router_of w.routers router ≡ Some r → (s : EndState) → end_of w.ends (router, to) ≡ Some s →
      (msg : Msg) (tag : ℕ) (xs : List Tagged) → s.queue ≡ record { msg = msg; tag = tag } ∷ xs → IsCarrying (w_take w router to s msg tag xs)
  take_carried router to r er s es msg tag xs front =
      clients_carried (with_ends w more) (received w.clients to msg (client_of w.clients to)) (there_same w.clients (received w.clients to msg (client_of w.clients to)) (same_received w.clients to msg))
      (ends_carried more all)
    where
      taken : Ends
      taken = with_end w.ends (router, to) (with_queue s xs)

      more : Ends
      more = changed taken (to, router) (λ e. sent e msg tag)

      queue : AllByRecursion (λ (t : Tagged). SentTo (role to) t.msg) (record { msg = msg; tag = tag } ∷ xs)
      queue = subst (λ (ts : List Tagged). AllByRecursion (λ t. SentTo (role to) t.msg) ts) front (end_is (router, to) s es).queue

      first : AreCarried role taken
      first = with_carried role w.ends (router, to) (with_queue s xs) (ap is_some es) h.0.ends (record { wire = (end_is (router, to) s es).wire; queue = queue.1 })

      own : role router ≡ Router
      own = ap (λ (o : Option RouterState). cond (is_some o) Router Client) er

      -- only a router has an end of its own: what is taken for a client is not carried
      all : AreCarried role more
      all = changed_carried role taken (to, router) (λ e. sent e msg tag) (λ z there k.
          let receives : is_some (router_of w.routers to) ≡ true =
          sound.routers to router (sym (keep_with_end w.ends (router, to) (with_queue s xs) is_some (to, router) s es refl) ∙ ap is_some there) in
          let may : MayPass Router msg = subst (λ (b : Bool). SentTo (cond b Router Client) msg) receives queue.0 in
          record {
            wire = All-append (λ (t : Tagged). MayPass (role router) t.msg) z.wire (record { msg = msg; tag = tag } ∷ []) k.wire (subst (λ (r : Role). MayPass r msg) (sym own) may, tt);
            queue = k.queue;
          }) first

  -- ---- all acts

  each_act : (act : Act) → IsFit act → IfSome (went now (outcome w line act)) Carries
  unfolding outcome
  each_act (a.Router id) fit = for_router now Carries id (λ free room snd. router_carried id free)
  each_act (a.Client id router) fit = for_client now Carries line id router (λ r er free room taken snd. client_carried id router r er free taken snd)
  each_act (a.Link one other weight) fit = for_link now Carries one other weight (λ apart r er q eq new room snd. link_carried one other weight)
  each_act (a.Up router name) fit = for_up now Carries line router name (λ r er there s es unbroken down taken snd. up_carried router name r er s es taken snd)
  each_act (a.Break router name) fit = for_break now Carries router name (λ r er there s es unbroken snd. break_carried router name)
  each_act (a.Down router name) fit = for_down now Carries line router name (λ r er there s es up cut l el taken snd. down_carried router name r er l taken snd)
  each_act (a.Sub client id key) fit =
      for_declare now Carries line client k.Sub id key (m.Sub id key) (λ s es fresh e ee unbroken r er room snd. declare_carried client k.Sub id key (m.Sub id key) fit s es e ee r er)
  each_act (a.Unsub client id) fit = for_undeclare now Carries line client k.Sub id (m.Unsub id) (λ s es known e ee unbroken snd. undeclare_carried client k.Sub id (m.Unsub id) fit s es e ee)
  each_act (a.Token client id key) fit =
      for_declare now Carries line client k.Token id key (m.Token id key) (λ s es fresh e ee unbroken r er room snd. declare_carried client k.Token id key (m.Token id key) fit s es e ee r er)
  each_act (a.Untoken client id) fit = for_undeclare now Carries line client k.Token id (m.Untoken id) (λ s es known e ee unbroken snd. undeclare_carried client k.Token id (m.Untoken id) fit s es e ee)
  each_act (a.Able client id key complete) fit =
      for_declare now Carries line client (able_kind complete) id key (m.Able id key complete) (λ s es fresh e ee unbroken r er room snd.
      declare_carried client (able_kind complete) id key (m.Able id key complete) fit s es e ee r er)
  each_act (a.Unable client id) fit = for_undeclare now Carries line client k.Able id (m.Unable id) (λ s es known e ee unbroken snd. undeclare_carried client k.Able id (m.Unable id) fit s es e ee)
  each_act (a.Interest client id mode kinds key aggregate) fit =
      let msg : Msg = m.Interest id (is_current mode) (is_future mode) kinds key aggregate in
      interest_says now Carries line client id mode kinds key aggregate (says_carried client msg fit) (weighs_carried client (unwrap_or key []) msg fit)
  each_act (a.Uninterest client id) fit = uninterest_says now Carries line client id (says_carried client (m.EndInterest id) fit)
  each_act (a.Publish client content) fit = publish_says now Carries line client content (says_carried client (m.Push None content) fit)
  each_act (a.Get client number target content) fit = get_says now Carries line client number target content (says_carried client (m.Request None number target content) fit)
  each_act (a.Reply client number content) fit = reply_says now Carries line client number content (says_carried client (m.Response number content) fit)
  each_act (a.End client number) fit = end_says now Carries line client number (says_carried client (m.Final number no_extras) fit)
  each_act (a.Handle router from) fit =
      for_handle now Carries router from (λ r er there s es up msg tag xs front l el taken snd. handle_carried router from r er s es msg tag xs front l taken snd)
  each_act (a.Take router to) fit = for_take now Carries router to (λ r er there s es up unbroken msg tag xs front snd. take_carried router to r er s es msg tag xs front)
  each_act a.Mark fit = for_mark now Carries line (λ settled joined snd. h)
  each_act (a.Show router) fit = for_show now Carries router (λ r er snd. h)

-- all of it holds of the world that an act leads to
pub act_carried : (w : WorldState) (line : ℕ) (act : Act) → IsFit act → Stands w → IfOk (outcome w line act) (λ x. Stands x.1)
act_carried w line act fit h = by (outcome w line act) (act_keeps w line act h.0) (each_act w line h.0 h.1 act fit)
  where
    by : (o : Outcome) → IfOk o (λ x. IsSound x.1) → IfSome (went (record { world = w; report = [] }) o) (λ next. IsSound next.world → IsCarrying next.world) → IfOk o (λ x. Stands x.1)
    by (Err e) s c = tt
    by (Ok x) s c = (s, c s)
