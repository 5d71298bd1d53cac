-- Each step of a phase keeps the flow: a sample or a query is written to the publisher's wire, handled from a router's wire into its queues, or sent from
-- a router's queue to the next router's wire or to the receiver; a mark moves nothing, and neither does a message that a router takes in
-- silence. One lemma a kind of step, from what the step does to each end's wire and queue.
use Rattle.std.proofs.Common.{◌≡◌, ℕ, Bool, true, false, cond, List, [], ◌∷◌, ◌++◌, Option, Some, None, refl, sym, ap, ◌∙◌, append-nil, inl, inr}
use Rattle.std.specs.Prelude.{◌&&◌, ◌||◌, not, is_some, is_none}
use Rattle.std.specs.List.{list_all}
use Rattle.std.specs.Option.{option_map}
use Rattle.std.proofs.lemmas.Bool.{true≢false, and_parts, and_from}
use Rattle.std.proofs.lemmas.List.Elements.{filter-append}
use Rattle.zr_id.specs.Zid.{is_named}
use Rattle.zr_tree.specs.Tree.{is_child}
use Rattle.zr_msg.specs.declared.msg.Msg.{Msg}
use Rattle.zr_script_spec.specs.declared.command.Act.{Act}
use Rattle.zr_script_spec.specs.declared.command.Act.TheVariants as c
use Rattle.zr_script_spec.specs.declared.report.ReportLine.{ReportLine}
use Rattle.zr_script_spec.specs.declared.report.ReportLine.TheVariants as line
use Rattle.zr_world_spec.specs.World.{Tagged, EndState, End, Ends, ClientState, RouterState, Routers, Clients, with_routers, with_clients, is_end, router_of, client_of, with_router, end_of, with_end, sent, with_queue, unsettles, is_calm, wire_at}
use Rattle.zr_world_spec.specs.Joined.{graph}
use Rattle.zr_world_spec.specs.Acts.{weighing, received, shown}
use Rattle.zr_world_spec.specs.Moments.{Numbered, Moment}
use Rattle.zr_guarantee.specs.Item.{Item, Carried}
use Rattle.zr_guarantee.specs.Broker.{is_for, publication, item_for}
use Rattle.zr_guarantee.specs.Sent.{carried_by, items_of, item_of, sent_to}
use Rattle.zr_world_spec.proofs.Clients.{SameClients, client_was, there_same, same_received}
use Rattle.zr_law_samples.proofs.Told.{sent_append, sent_taken}
use Rattle.zr_world_spec.proofs.Names.{names, same_name, read_kept}
use Rattle.zr_world_spec.proofs.Ends.{end_parts, same_end, read_with_end, keep_with_end, test_with_end, read_changed, keep_changed}
use Rattle.zr_world_spec.proofs.Cases.{w_sent, Says, Weighs, on_take, on_mark, on_show}
use Rattle.zr_lists.proofs.Tests.{all_both}
use Rattle.zr_law_samples.proofs.Places.{Sent, Queue, Wire, Hop, hops, along, keeps, gains, handled, taken, written}
use Rattle.zr_law_settled.proofs.Worlds.{queue_at}
use Rattle.zr_law_settled.proofs.Ends.{other_end}
use Rattle.zr_law_samples.proofs.Pushes.{names_tree}
use Rattle.zr_law_samples.proofs.Watch.{shows_nothing}
use Rattle.zr_law_settled.proofs.Orderly.{turned_end}
use Rattle.zr_law_samples.proofs.Held.{items_both, loses, wire_adds, wanted_both, kept_both, there, apart, clients_still, end_is}
use Rattle.zr_law_samples.proofs.Pair.{Pair, items, of_publisher, wanted_of, kept_for, held, way, has_router, comes_down, fits, idle_router, Flows, OnWay, Between, IsRouted, for_receiver, sent_more, from_more, from_same}

module _ (p : Pair) (routed : IsRouted p) (done : List Numbered) (now : Moment) (h : Flows p done now) where
  abbrev es : Ends
  es = now.world.ends

  -- ---- a client says something

  -- what a client's message carries, of what its line publishes: the publisher's is what its line has for the receiver, another one's line has nothing
  -- for it; and where the line is the publisher's, the message is the publisher's own or carries nothing
  pub record IsSaid (n : ℕ) (act : Act) (client : List ℕ) (msg : Msg) : Type 0 where
    pub calm : unsettles msg ≡ false
    pub own : is_named client p.publisher ≡ true → wanted_of p (item_of msg n) ≡ for_receiver p.before p.publisher p.receiver (n, act)
    pub other : is_named client p.publisher ≡ false → for_receiver p.before p.publisher p.receiver (n, act) ≡ []
    pub writer : p.by n ≡ true → is_none (carried_by msg) ≡ false → is_named p.publisher client ≡ true

  -- what comes to a wire
  wire_gains : (n : ℕ) (act : Act) (client : List ℕ) (msg : Msg) → IsSaid n act client msg → (ws : List Tagged) →
      wanted_of p (items (cond (is_named client p.publisher) (ws ++ record { msg = msg; tag = n } ∷ []) ws)) ≡ wanted_of p (items ws) ++ for_receiver p.before p.publisher p.receiver (n, act)
  wire_gains n act client msg said ws = by (is_named client p.publisher) refl
    where
      by : (b : Bool) → is_named client p.publisher ≡ b →
          wanted_of p (items (cond b (ws ++ record { msg = msg; tag = n } ∷ []) ws)) ≡ wanted_of p (items ws) ++ for_receiver p.before p.publisher p.receiver (n, act)
      by true e =
          ap (wanted_of p) (items_both ws (record { msg = msg; tag = n } ∷ []))
          ∙ wanted_both p (items ws) (item_of msg n ++ [])
          ∙ ap (λ z. wanted_of p (items ws) ++ wanted_of p z) (append-nil (item_of msg n))
          ∙ ap (λ z. wanted_of p (items ws) ++ z) (said.own e)
      by false e = sym (append-nil (wanted_of p (items ws))) ∙ ap (λ z. wanted_of p (items ws) ++ z) (sym (said.other e))

  -- the message is on the wire; what it says may weigh on its router
  abbrev on_saying : ℕ → List ℕ → Msg → ClientState → EndState → Clients → Routers → Moment
  on_saying n client msg s e clients routers = record { world = with_clients (with_routers (w_sent now.world n client s e msg) routers) clients; report = now.report ++ [] }

  saying_keeps : (n : ℕ) (act : Act) (client : List ℕ) (msg : Msg) → IsSaid n act client msg → (s : ClientState) → client_of now.world.clients client ≡ Some s → (e : EndState) → end_of es (s.router, client) ≡ Some e →
      (clients : Clients) → SameClients now.world.clients clients → (routers : Routers) → ((x : List ℕ) → option_map idle_router (router_of routers x) ≡ option_map idle_router (router_of now.world.routers x)) →
      Flows p (done ++ (n, act) ∷ []) (on_saying n client msg s e clients routers)
  saying_keeps n act client msg said s is_client e found clients same routers weights = record {
    routers = λ x. weights x ∙ h.routers x;
    clients = clients_still p routed done now h clients same;
    ends_are = λ q. kept is_some refl q ∙ h.ends_are q;
    calm = λ q. test_with_end es (s.router, client) e' (λ o. list_all is_calm (wire_at o)) q e found (h.calm q)
        (λ k all. all_both is_calm e.wire (x ∷ []) all (and_from (is_calm x) true (ap not said.calm) refl));
    calm_queues = λ q. kept (λ o. list_all is_calm (queue_at o)) refl q ∙ h.calm_queues q;
    wires = λ u v. test_with_end es (s.router, client) e' (λ o. list_all (fits p u v) (wire_at o)) (u, v) e found (h.wires u v)
        (λ k all. all_both (fits p u v) e.wire (x ∷ []) all (and_from (fits p u v x) true (fits_own u v k) refl));
    queues = λ u v r. kept (λ o. list_all (fits p v u) (queue_at o)) refl (u, v) ∙ h.queues u v r;
    flow = gains (held p now) (held p next) (for_receiver p.before p.publisher p.receiver (n, act)) (way p)
        (written (OnWay p) (Between p) p.publisher (held p now) (held p next) (for_receiver p.before p.publisher p.receiver (n, act)) queue_is between_is last_is p.receiver p.first p.more routed.whole_way sent_is)
        ∙ ap (λ z. z ++ for_receiver p.before p.publisher p.receiver (n, act)) h.flow
        ∙ sym (from_more p.before done (n, act) p.publisher p.receiver);
  }
    where
      x : Tagged
      x = record { msg = msg; tag = n }

      e' : EndState
      e' = sent e msg n

      next : Moment
      next = on_saying n client msg s e clients routers

      kept : {Y : Type 0} (f : Option EndState → Y) → f (Some e') ≡ f (Some e) → (q : End) → f (end_of next.world.ends q) ≡ f (end_of es q)
      kept f alike q = keep_with_end es (s.router, client) e' f q e found alike

      -- the publisher's own wire is at its router
      at_root : is_named p.publisher client ≡ true → s.router ≡ p.root
      at_root own =
          let was = client_was p.world.clients now.world.clients h.clients p.publisher s (ap (client_of now.world.clients) (same_name p.publisher client own) ∙ is_client) in
          sym (ap (λ (q : ClientState). q.router) was.2) ∙ routed.home was.0 was.1

      no_router : has_router p client ≡ false
      no_router = routed.clients_apart client (sym (there_same p.world.clients now.world.clients h.clients client) ∙ ap is_some is_client)

      fits_own : (u v : List ℕ) → is_end (s.router, client) (u, v) ≡ true → fits p u v x ≡ true
      fits_own u v k = by (p.by n) refl (is_none (carried_by msg)) refl
        where
          parts : (is_named s.router u ≡ true) × (is_named client v ≡ true)
          parts = and_parts (is_named s.router u) (is_named client v) (sym (end_parts (s.router, client) (u, v)) ∙ k)

          by : (b : Bool) → p.by n ≡ b → (t : Bool) → is_none (carried_by msg) ≡ t → (not b || (t || comes_down p u v msg)) ≡ true
          by false f t g = refl
          by true f true g = refl
          by true f false g =
              let own : is_named p.publisher client ≡ true = said.writer f g in
              let root_is : is_named p.root u ≡ true = ap (is_named p.root) (sym (same_name s.router u parts.0) ∙ at_root own) ∙ names.refl p.root in
              ap (λ z. cond z (is_named p.publisher v) (is_child (graph p.world) p.root v u) && (z || names_tree p.root msg)) root_is
              ∙ ap (λ z. z && true) (ap (is_named p.publisher) (sym (same_name client v parts.1)) ∙ own)

      sent_is : held p next (Sent p.receiver) ≡ held p now (Sent p.receiver)
      sent_is = ap (λ z. of_publisher p (sent_to z p.receiver)) (append-nil now.report)

      queue_is : (to r v : List ℕ) → OnWay p to r v → held p next (Queue r to) ≡ held p now (Queue r to)
      queue_is to r v k = ap (λ z. kept_for p to (items z)) (kept queue_at refl (r, to))

      wire_reads : (q : End) → wire_at (end_of next.world.ends q) ≡ cond (is_end (s.router, client) q) (e.wire ++ x ∷ []) (wire_at (end_of es q))
      wire_reads q = read_with_end es (s.router, client) e' wire_at q (ap is_some found)

      between_is : (r v : List ℕ) → Between p r v → held p next (Wire r v) ≡ held p now (Wire r v)
      between_is r v k = ap (λ z. wanted_of p (items z)) (wire_reads (r, v) ∙ ap (λ b. cond b (e.wire ++ x ∷ []) (wire_at (end_of es (r, v)))) other)
        where
          other : is_end (s.router, client) (r, v) ≡ false
          other = other_end s.router r client v (names.symm client v ∙ apart p routed done now h v client k.router no_router)

      last_is : (to r : List ℕ) → OnWay p to r p.publisher → held p next (Wire r p.publisher) ≡ held p now (Wire r p.publisher) ++ for_receiver p.before p.publisher p.receiver (n, act)
      last_is to r k =
          ap (λ z. wanted_of p (items z)) (wire_reads (r, p.publisher)
          ∙ ap (λ b. cond b (e.wire ++ x ∷ []) (wire_at (end_of es (r, p.publisher)))) (own_end (is_named client p.publisher) refl)
          ∙ by (is_named client p.publisher) refl)
          ∙ wire_gains n act client msg said (wire_at (end_of es (r, p.publisher)))
        where
          own_end : (b : Bool) → is_named client p.publisher ≡ b → is_end (s.router, client) (r, p.publisher) ≡ is_named client p.publisher
          own_end true own = end_parts (s.router, client) (r, p.publisher)
              ∙ ap (λ b. b && is_named client p.publisher) (ap (λ z. is_named z r) (at_root (names.symm p.publisher client ∙ own)) ∙ k.last (names.refl p.publisher))
          own_end false own = other_end s.router r client p.publisher own ∙ sym own

          by : (b : Bool) → is_named client p.publisher ≡ b → cond b (e.wire ++ x ∷ []) (wire_at (end_of es (r, p.publisher)))
              ≡ cond b (wire_at (end_of es (r, p.publisher)) ++ x ∷ []) (wire_at (end_of es (r, p.publisher)))
          by false own = refl
          by true own = ap (λ z. z ++ x ∷ []) (sym (ap (λ z. wire_at (end_of es z)) (sym (same_end (s.router, client) (r, p.publisher) (own_end true own ∙ own))) ∙ ap wire_at found))

  pub says_keeps : (n : ℕ) (act : Act) (client : List ℕ) (msg : Msg) → IsSaid n act client msg → Says now (Flows p (done ++ (n, act) ∷ [])) n client msg
  says_keeps n act client msg said s is_client e found unbroken clients same = saying_keeps n act client msg said s is_client e found clients same now.world.routers (λ x. refl)

  pub weighs_keeps : (n : ℕ) (act : Act) (client key : List ℕ) (msg : Msg) → IsSaid n act client msg → Weighs now (Flows p (done ++ (n, act) ∷ [])) n client key msg
  weighs_keeps n act client key msg said s is_client e found unbroken r there room clients same =
      saying_keeps n act client msg said s is_client e found clients same (with_router now.world.routers s.router (weighing r key))
      (λ x. read_kept (option_map idle_router) now.world.routers s.router x r (weighing r key) there refl)

  -- a sample or a query
  pub publication_said : (n : ℕ) (act : Act) (client : List ℕ) (msg : Msg) (carried : Carried) → publication act ≡ Some (record { client = client; carried = carried }) → carried_by msg ≡ Some carried →
      unsettles msg ≡ false → p.by n ≡ is_named p.publisher client → IsSaid n act client msg
  publication_said n act client msg carried published carries calm agrees = record {
    calm = calm;
    own = λ e. ap (λ o. wanted_of p (items_of o n)) carries ∙ ap (λ b. cond (b && is_for p.before p.publisher p.receiver carried) (item ∷ []) []) agrees ∙ sym for_it;
    other = λ e. for_it ∙ ap (λ b. cond (b && is_for p.before p.publisher p.receiver carried) (item ∷ []) []) (names.symm p.publisher client ∙ e);
    writer = λ f g. sym agrees ∙ f;
  }
    where
      item : Item
      item = record { line = n; carried = carried }

      for_it : for_receiver p.before p.publisher p.receiver (n, act) ≡ cond (is_named p.publisher client && is_for p.before p.publisher p.receiver carried) (item ∷ []) []
      for_it = ap (item_for p.before p.publisher p.receiver n) published

  -- a reply or an end, or what concerns an interest
  pub answer_said : (n : ℕ) (act : Act) (client : List ℕ) (msg : Msg) → publication act ≡ None → carried_by msg ≡ None → unsettles msg ≡ false → IsSaid n act client msg
  answer_said n act client msg silent carries calm = record {
    calm = calm;
    own = λ e. ap (λ o. wanted_of p (items_of o n)) carries ∙ sym for_it;
    other = λ e. for_it;
    writer = λ f g. absurd (true≢false (sym (ap is_none carries) ∙ g));
  }
    where
      for_it : for_receiver p.before p.publisher p.receiver (n, act) ≡ []
      for_it = ap (item_for p.before p.publisher p.receiver n) silent

  -- ---- take

  pub take_keeps : (n : ℕ) (router to : List ℕ) (s : EndState) → end_of es (router, to) ≡ Some s → (msg : Msg) (tag : ℕ) (xs : List Tagged) → s.queue ≡ record { msg = msg; tag = tag } ∷ xs →
      Flows p (done ++ (n, c.Take router to) ∷ []) (on_take now router to s msg tag xs)
  take_keeps n router to s found msg tag xs front = record {
    routers = h.routers;
    clients = clients_still p routed done now h (received now.world.clients to msg (client_of now.world.clients to)) (same_received now.world.clients to msg);
    ends_are = λ q. kept is_some refl (λ y. refl) q ∙ h.ends_are q;
    calm = λ q. ap (list_all is_calm) (wire_reads q) ∙ gains_one is_calm (is_end (to, router) q && is_some (end_of es q)) (wire_at (end_of es q)) (λ k. first_of is_calm (h.calm_queues (router, to))) (h.calm q);
    calm_queues = λ q. ap (list_all is_calm) (queue_reads q) ∙ loses is_calm one xs (is_end (router, to) q) (queue_at (end_of es q)) (queue_was q) (h.calm_queues q);
    wires = λ u v. ap (list_all (fits p u v)) (wire_reads (u, v))
        ∙ gains_one (fits p u v) (is_end (to, router) (u, v) && is_some (end_of es (u, v))) (wire_at (end_of es (u, v))) (fits_there u v) (h.wires u v);
    queues = λ u v r. ap (list_all (fits p v u)) (queue_reads (u, v)) ∙ loses (fits p v u) one xs (is_end (router, to) (u, v)) (queue_at (end_of es (u, v))) (queue_was (u, v)) (h.queues u v r);
    flow = keeps (held p now) (held p next) moved (way p)
        (taken (OnWay p) (Between p) p.publisher (held p now) (held p next) moved between_hop last_same p.receiver p.first p.more routed.whole_way (first_hop (is_named p.receiver to) refl))
        ∙ h.flow ∙ sym (from_same p.before done (n, c.Take router to) p.publisher p.receiver refl);
  }
    where
      next : Moment
      next = on_take now router to s msg tag xs

      one : Tagged
      one = record { msg = msg; tag = tag }

      half : Ends
      half = with_end es (router, to) (with_queue s xs)

      kept : {Y : Type 0} (f : Option EndState → Y) → f (Some (with_queue s xs)) ≡ f (Some s) → ((y : EndState) → f (Some (sent y msg tag)) ≡ f (Some y)) → (q : End) → f (end_of next.world.ends q) ≡ f (end_of es q)
      kept f same_queue same_wire q = keep_changed half (to, router) (λ z. sent z msg tag) f q same_wire ∙ keep_with_end es (router, to) (with_queue s xs) f q s found same_queue

      wire_reads : (q : End) → wire_at (end_of next.world.ends q) ≡ cond (is_end (to, router) q && is_some (end_of es q)) (wire_at (end_of es q) ++ one ∷ []) (wire_at (end_of es q))
      wire_reads q = read_changed half (to, router) (λ z. sent z msg tag) wire_at q
          ∙ wire_adds (is_end (to, router) q) one (end_of es q) (end_of half q) (keep_with_end es (router, to) (with_queue s xs) wire_at q s found refl) (keep_with_end es (router, to) (with_queue s xs) is_some q s found refl)

      queue_reads : (q : End) → queue_at (end_of next.world.ends q) ≡ cond (is_end (router, to) q) xs (queue_at (end_of es q))
      queue_reads q = keep_changed half (to, router) (λ z. sent z msg tag) queue_at q (λ z. refl) ∙ read_with_end es (router, to) (with_queue s xs) queue_at q (ap is_some found)

      queue_was : (q : End) → is_end (router, to) q ≡ true → queue_at (end_of es q) ≡ one ∷ xs
      queue_was q k = ap (λ z. queue_at (end_of es z)) (sym (same_end (router, to) q k)) ∙ ap queue_at found ∙ front

      -- the message passes what all in its queue pass
      first_of : (t : Tagged → Bool) → list_all t (queue_at (end_of es (router, to))) ≡ true → t one ≡ true
      first_of t all = (and_parts (t one) (list_all t xs) (ap (list_all t) (sym (ap queue_at found ∙ front)) ∙ all)).0

      gains_one : (t : Tagged → Bool) (b : Bool) (ws : List Tagged) → (b ≡ true → t one ≡ true) → list_all t ws ≡ true → list_all t (cond b (ws ++ one ∷ []) ws) ≡ true
      gains_one t true ws k all = all_both t ws (one ∷ []) all (and_from (t one) true (k refl) refl)
      gains_one t false ws k all = all

      is_router : has_router p router ≡ true
      is_router = routed.sound.routers router to (there p routed done now h (router, to) s found)

      fits_there : (u v : List ℕ) → (is_end (to, router) (u, v) && is_some (end_of es (u, v))) ≡ true → fits p u v one ≡ true
      fits_there u v k =
          let parts = and_parts (is_end (to, router) (u, v)) (is_some (end_of es (u, v))) k in
          let same : (to, router) ≡ (u, v) = same_end (to, router) (u, v) parts.0 in
          let at : is_some (end_of p.world.ends (to, router)) ≡ true = ap (λ z. is_some (end_of p.world.ends z)) same ∙ sym (h.ends_are (u, v)) ∙ parts.1 in
          ap (λ (z : End). fits p z.0 z.1 one) (sym same) ∙ first_of (fits p to router) (h.queues router to (routed.sound.routers to router at))

      moved : List Item
      moved = kept_for p to (item_of msg tag)

      sent_is : held p next (Sent p.receiver) ≡ of_publisher p (sent_to now.report p.receiver ++ cond (is_named p.receiver to) (item_of msg tag) [])
      sent_is = ap (of_publisher p) (sent_more now.report (line.Taken router to msg tag) p.receiver ∙ ap (λ z. sent_to now.report p.receiver ++ z) (sent_taken router to msg tag p.receiver))

      queue_is : (r v : List ℕ) → held p next (Queue r v) ≡ kept_for p v (items (cond (is_end (router, to) (r, v)) xs (queue_at (end_of es (r, v)))))
      queue_is r v = ap (λ z. kept_for p v (items z)) (queue_reads (r, v))

      -- the queue that the message leaves
      queue_loses : (r v : List ℕ) → is_end (router, to) (r, v) ≡ true → held p now (Queue r v) ≡ kept_for p v (item_of msg tag) ++ held p next (Queue r v)
      queue_loses r v k =
          ap (λ z. kept_for p v (items z)) (queue_was (r, v) k)
          ∙ kept_both p v (item_of msg tag) (items xs)
          ∙ ap (λ z. kept_for p v (item_of msg tag) ++ z) (sym (queue_is r v ∙ ap (λ b. kept_for p v (items (cond b xs (queue_at (end_of es (r, v)))))) k))

      queue_stays : (r v : List ℕ) → is_end (router, to) (r, v) ≡ false → held p next (Queue r v) ≡ held p now (Queue r v)
      queue_stays r v k = queue_is r v ∙ ap (λ b. kept_for p v (items (cond b xs (queue_at (end_of es (r, v)))))) k

      first_hop : (b : Bool) → is_named p.receiver to ≡ b → Hop (held p now) (held p next) moved (Sent p.receiver) (Queue p.first p.receiver)
      first_hop true same = inl (
        sent_is ∙ ap (λ b. of_publisher p (sent_to now.report p.receiver ++ cond b (item_of msg tag) [])) same
            ∙ filter-append (λ i. p.by i.line) (sent_to now.report p.receiver) (item_of msg tag)
            ∙ ap (λ b. held p now (Sent p.receiver) ++ cond b (of_publisher p (item_of msg tag)) (wanted_of p (item_of msg tag))) (sym same),
        queue_loses p.first p.receiver its ∙ ap (λ z. kept_for p z (item_of msg tag) ++ held p next (Queue p.first p.receiver)) is,
      )
        where
          is : p.receiver ≡ to
          is = same_name p.receiver to same

          its : is_end (router, to) (p.first, p.receiver) ≡ true
          its = end_parts (router, to) (p.first, p.receiver)
              ∙ and_from (is_named router p.first) (is_named to p.receiver)
              (ap (is_named router) (sym (routed.receiver_home router (ap (λ z. is_some (end_of p.world.ends (router, z))) is ∙ there p routed done now h (router, to) s found))) ∙ names.refl router)
              (names.symm to p.receiver ∙ same)
      first_hop false other = inr (
        sent_is ∙ ap (λ b. of_publisher p (sent_to now.report p.receiver ++ cond b (item_of msg tag) [])) other ∙ ap (of_publisher p) (append-nil (sent_to now.report p.receiver)),
        queue_stays p.first p.receiver (other_end router p.first to p.receiver (names.symm to p.receiver ∙ other)),
      )

      wire_is : (r v : List ℕ) → held p next (Wire r v) ≡ wanted_of p (items (cond (is_end (to, router) (r, v) && is_some (end_of es (r, v))) (wire_at (end_of es (r, v)) ++ one ∷ []) (wire_at (end_of es (r, v)))))
      wire_is r v = ap (λ z. wanted_of p (items z)) (wire_reads (r, v))

      between_hop : (r v : List ℕ) → Between p r v → Hop (held p now) (held p next) moved (Wire r v) (Queue v r)
      between_hop r v k = by (is_end (router, to) (v, r)) refl
        where
          at : is_some (end_of es (r, v)) ≡ true
          at = end_is p routed done now h (r, v) k.end_is

          test_is : (b : Bool) → is_end (router, to) (v, r) ≡ b → (is_end (to, router) (r, v) && is_some (end_of es (r, v))) ≡ b
          test_is b e = ap (λ z. z && is_some (end_of es (r, v))) (turned_end (router, to) (r, v) ∙ e) ∙ ap (λ z. b && z) at ∙ own b
            where
              own : (b : Bool) → (b && true) ≡ b
              own true = refl
              own false = refl

          by : (b : Bool) → is_end (router, to) (v, r) ≡ b → Hop (held p now) (held p next) moved (Wire r v) (Queue v r)
          by true e = inl (
            wire_is r v ∙ ap (λ b. wanted_of p (items (cond b (wire_at (end_of es (r, v)) ++ one ∷ []) (wire_at (end_of es (r, v)))))) (test_is true e)
                ∙ ap (wanted_of p) (items_both (wire_at (end_of es (r, v))) (one ∷ []))
                ∙ wanted_both p (items (wire_at (end_of es (r, v)))) (item_of msg tag ++ [])
                ∙ ap (λ z. held p now (Wire r v) ++ wanted_of p z) (append-nil (item_of msg tag))
                ∙ ap (λ z. held p now (Wire r v) ++ z) chosen,
            queue_loses v r e ∙ ap (λ z. kept_for p z (item_of msg tag) ++ held p next (Queue v r)) (sym to_is),
          )
            where
              to_is : to ≡ r
              to_is = same_name to r (and_parts (is_named router v) (is_named to r) (sym (end_parts (router, to) (v, r)) ∙ e)).1

              -- the receiver is no router
              chosen : wanted_of p (item_of msg tag) ≡ kept_for p to (item_of msg tag)
              chosen = sym (ap (λ b. cond b (of_publisher p (item_of msg tag)) (wanted_of p (item_of msg tag)))
                  (ap (is_named p.receiver) to_is ∙ names.symm p.receiver r ∙ apart p routed done now h r p.receiver (routed.sound.routers r v k.end_is) routed.receiver_apart))
          by false e = inr (
            wire_is r v ∙ ap (λ b. wanted_of p (items (cond b (wire_at (end_of es (r, v)) ++ one ∷ []) (wire_at (end_of es (r, v)))))) (test_is false e),
            queue_stays v r e,
          )

      last_same : (v r : List ℕ) → OnWay p v r p.publisher → held p next (Wire r p.publisher) ≡ held p now (Wire r p.publisher)
      last_same v r k = wire_is r p.publisher ∙ ap (λ b. wanted_of p (items (cond b (wire_at (end_of es (r, p.publisher)) ++ one ∷ []) (wire_at (end_of es (r, p.publisher))))))
          (ap (λ z. z && is_some (end_of es (r, p.publisher))) (other_end to r router p.publisher (apart p routed done now h router p.publisher is_router routed.publisher_apart)))

  -- ---- mark and show

  -- lines of the report without samples and requests, in the same world
  told_keeps : (n : ℕ) (act : Act) (xs : List ReportLine) → sent_to xs p.receiver ≡ [] → for_receiver p.before p.publisher p.receiver (n, act) ≡ [] →
      Flows p (done ++ (n, act) ∷ []) (record { world = now.world; report = now.report ++ xs })
  told_keeps n act xs none nothing = record {
    routers = h.routers;
    clients = h.clients;
    ends_are = h.ends_are;
    calm = h.calm;
    calm_queues = h.calm_queues;
    wires = h.wires;
    queues = h.queues;
    flow = ap (λ z. of_publisher p z ++ along (held p next) (hops p.receiver (p.first ∷ p.more) p.publisher))
        (sent_append now.report xs p.receiver ∙ ap (λ z. sent_to now.report p.receiver ++ z) none ∙ append-nil (sent_to now.report p.receiver))
        ∙ ap (λ z. held p now (Sent p.receiver) ++ z) (keeps (held p now) (held p next) [] (hops p.receiver (p.first ∷ p.more) p.publisher)
        (handled (OnWay p) (Between p) p.publisher (held p now) (held p next) [] (λ to r v k. inr (refl, refl)) p.receiver (p.first ∷ p.more) routed.whole_way))
        ∙ h.flow ∙ sym (from_same p.before done (n, act) p.publisher p.receiver nothing);
  }
    where
      next : Moment
      next = record { world = now.world; report = now.report ++ xs }

  pub mark_keeps : (n : ℕ) → Flows p (done ++ (n, c.Mark) ∷ []) (on_mark now n)
  mark_keeps n = told_keeps n c.Mark (line.Mark n ∷ []) refl refl

  pub show_keeps : (n : ℕ) (router : List ℕ) (r : RouterState) → Flows p (done ++ (n, c.Show router) ∷ []) (on_show now router r)
  show_keeps n router r = told_keeps n (c.Show router) (line.Show router ∷ shown r.node) (shows_nothing r.node p.receiver) refl
