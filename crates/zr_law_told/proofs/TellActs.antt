-- Each act that is not refused keeps what routers have told their clients (`AreTold`).
use Rattle.std.proofs.Common.{◌≡◌, ℕ, Bool, true, false, cond, List, [], ◌∷◌, ◌++◌, map, Option, Some, None, is_some, refl, sym, ap, ◌∙◌, subst, append-nil, append_assoc}
use Rattle.std.specs.Prelude.{◌||◌, not, filter, unwrap_or, IfSome}
use Rattle.std.specs.List.{cons_option}
use Rattle.std.specs.Option.{option_map, option_map_or}
use Rattle.std.specs.Ordering.{nat_cmp}
use Rattle.std.specs.Cmp.Lexicographic.{slice_cmp}
use Rattle.std.specs.BTreeMap.{insert_entry}
use Rattle.std.proofs.lemmas.Bool.{true≢false, false_from_ne_true, or_parts}
use Rattle.std.proofs.lemmas.List.{map-append}
use Rattle.std.proofs.lemmas.List.Elements.{filter_map-append}
use Rattle.zr_lists.proofs.Options.{not_there}
use Rattle.zr_id.specs.Zid.{is_named}
use Rattle.zr_id.specs.declared.link.LinkNo.{LinkNo}
use Rattle.zr_graph.specs.Record.{ids}
use Rattle.zr_graph.proofs.Names.{same_is, same_refl}
use Rattle.zr_msg.specs.Extras.{no_extras}
use Rattle.zr_msg.specs.declared.decl.Kind.{Kind}
use Rattle.zr_msg.specs.declared.decl.Kind.TheVariants as k
use Rattle.zr_msg.specs.declared.msg.Msg.{Msg}
use Rattle.zr_msg.specs.declared.msg.Msg.TheVariants as m
use Rattle.zr_msg.specs.declared.event.Event.{Event}
use Rattle.zr_msg.specs.declared.event.Event.TheVariants.{Down, From}
use Rattle.zr_msg.specs.declared.peer.LinkPeer.{LinkPeer}
use Rattle.zr_msg.specs.Peer.{PeerState}
use Rattle.zr_msg.specs.declared.peer.Role.TheVariants.{Client}
use Rattle.zr_script_spec.specs.declared.command.Act.{Act}
use Rattle.zr_script_spec.specs.declared.command.Act.TheVariants as a
use Rattle.zr_script_spec.specs.declared.report.ReportLine.{ReportLine}
use Rattle.zr_script_spec.specs.declared.report.ReportLine.TheVariants as line
use Rattle.zr_script_spec.specs.Mode.{is_current, is_future}
use Rattle.zr_node_spec.specs.Tables.{is_router, link_to, free_link, leads_to_client}
use Rattle.zr_node_spec.specs.State.{NodeState, new_link}
use Rattle.zr_node_spec.specs.Table.{able_kind, after}
use Rattle.zr_node_spec.proofs.FreeLink.{free_is_free}
use Rattle.zr_node_spec.proofs.LinksStay.{links_from}
use Rattle.zr_told_spec.specs.Laws.{Agrees}
use Rattle.zr_told_spec.specs.Rows.{map_on}
use Rattle.zr_told_spec.specs.Told.{ToldMap, heard as leave}
use Rattle.zr_told_spec.proofs.Hubs.{start_agrees}
use Rattle.zr_world_spec.specs.World.{Tagged, RouterState, EndState, ClientState, Ends, Routers, Clients, WorldState, with_routers, with_clients, with_ends, with_router, with_client, router_of, client_of, end_of, is_end, new_router, new_client, new_end, put_end, with_end, with_wire, with_queue, lifted, lowered, broken, sent, changed, is_taken}
use Rattle.zr_world_spec.specs.Acts.{outcome, heard, sends_to, told_to as tells_to, having_told, weighing, declaring, undeclaring, up_event, peer_of, parent_line, source_line, shown_base, shown}
use Rattle.zr_world_spec.specs.Moments.{Moment, went}
use Rattle.zr_world_spec.specs.Sound.{AreUnique, IsSound}
use Rattle.zr_guarantee.specs.Sent.{Told, told_in, told_to}
use Rattle.zr_world_spec.proofs.Names.{names, value_new, read_after, read_kept}
use Rattle.zr_world_spec.proofs.Ends.{ends, read_with_end, keep_with_end, read_put_end, read_changed, keep_changed}
use Rattle.zr_world_spec.proofs.Links.{numbered_link}
use Rattle.zr_world_spec.proofs.Clients.{same_received}
use Rattle.zr_world_spec.proofs.Cases.{w_client, w_up, w_down, w_handle, w_sent, w_take, free_name, number_found, for_router, for_client, for_link, for_up, for_break, for_down, for_declare, for_undeclare, Says, Weighs, interest_says, uninterest_says, publish_says, get_says, reply_says, end_says, for_handle, for_take, for_mark, for_show}
use Rattle.zr_law_settled.proofs.Spreading.{Name}
use Rattle.zr_law_settled.proofs.Worlds.{there_in, queue_at}
use Rattle.zr_law_settled.proofs.Moving.{unbroken_at}
use Rattle.zr_law_settled.proofs.Ends.{other_end}
use Rattle.zr_law_settled.proofs.ClientRows.{ClientsHold, not_to}
use Rattle.zr_law_told.proofs.Readings.{told_of, msgs_in, waits, told_by, SameHomes, same_homes, home_was, same_taken, either_router, router_new, none_before}
use Rattle.zr_law_told.proofs.Events.{its_end, no_link_down, no_link_new, not_down, up_links, up_unique, down_links, down_unique, from_unique}
use Rattle.zr_law_told.proofs.Told.{Informs, AreTold, new_informs, event_agrees, still, told_then, waits_then, router_informs, routers_then, hears_agrees, heard_told}

-- ---- reports

-- what a report says besides of nobody
untold : (report more : List ReportLine) → ((c : Name) → told_to more c ≡ []) → (c : Name) → told_by (report ++ more) c ≡ told_by report c
untold report more none c = ap (map (λ (x : Told). x.msg)) (filter_map-append (told_in c) report more ∙ ap (λ z. told_to report c ++ z) (none c) ∙ append-nil (told_to report c))

-- and what it says that a name was sent
told_more : (report : List ReportLine) (router to : Name) (msg : Msg) (tag : ℕ) (c : Name) → told_by (report ++ line.Taken router to msg tag ∷ []) c ≡ told_by report c ++ cond (is_named c to) (msg ∷ []) []
told_more report router to msg tag c =
    ap (map (λ (x : Told). x.msg)) (filter_map-append (told_in c) report (line.Taken router to msg tag ∷ []))
    ∙ map-append (λ (x : Told). x.msg) (told_to report c) (told_to (line.Taken router to msg tag ∷ []) c) ∙ ap (λ z. told_by report c ++ z) (by (is_named c to))
  where
    by : (b : Bool) → map (λ (x : Told). x.msg) (cons_option (cond b (Some (record { msg = msg; tag = tag })) None) []) ≡ cond b (msg ∷ []) []
    by true = refl
    by false = refl

none_told : {X : Type 0} (f : X → ReportLine) (c : Name) → ((x : X) → told_in c (f x) ≡ None) → (xs : List X) → told_to (map f xs) c ≡ []
none_told f c none [] = refl
none_told f c none (x ∷ xs) = ap (λ o. cons_option o (told_to (map f xs) c)) (none x) ∙ none_told f c none xs

both_untold : (xs ys : List ReportLine) (c : Name) → told_to xs c ≡ [] → told_to ys c ≡ [] → told_to (xs ++ ys) c ≡ []
both_untold xs ys c e f = filter_map-append (told_in c) xs ys ∙ ap (λ z. z ++ told_to ys c) e ∙ f

-- a router's tables are told to nobody
shown_untold : (router : Name) (node : NodeState) (c : Name) → told_to (line.Show router ∷ shown node) c ≡ []
shown_untold router node c =
    both_untold (shown_base node.base) (map source_line node.known.logs) c
    (both_untold (map (λ r. line.Record r) node.base.records) (map (λ root. parent_line node.base root) (filter (λ id. not (is_named id node.base.me)) (ids node.base.records))) c
    (none_told (λ r. line.Record r) c (λ r. refl) node.base.records)
    (none_told (λ root. parent_line node.base root) c (λ root. refl) (filter (λ id. not (is_named id node.base.me)) (ids node.base.records))))
    (none_told source_line c (λ log. refl) node.known.logs)

reported : (v : WorldState) (report more : List ReportLine) → ((c : Name) → told_by more c ≡ told_by report c) → AreTold v report → AreTold v more
reported v report more said t = still v report t v more t.routers (λ c e. e) said (λ c. refl) (λ c s client m is. record { told = refl; waiting = refl })

-- ---- acts

module _ (now : Moment) (sound : IsSound now.world) (h : ClientsHold now.world) (t : AreTold now.world now.report) where
  abbrev w : WorldState
  w = now.world

  abbrev pub TellsThen : Moment → Type 0
  TellsThen next = AreTold next.world next.report

  -- the report has no more
  alone : (v : WorldState) → AreTold v now.report → AreTold v (now.report ++ [])
  alone v k = subst (AreTold v) (sym (append-nil now.report)) k

  abbrev waiting_at : Option EndState → List Msg
  waiting_at o = msgs_in (queue_at o)

  router_comes : (id : Name) → is_taken w id ≡ false → AreTold (with_routers w (insert_entry (slice_cmp nat_cmp) w.routers id (new_router id))) now.report
  router_comes id free = still w now.report t v now.report
      (λ x q is. either_router (λ q. Informs q.node q.told) (router_of w.routers x) q (new_router id) (is_named x id) (t.routers x) (new_informs id) (sym (routers x) ∙ is))
      taken (λ c. refl) (λ c. refl)
      (λ c s client m is. record { told = router_new (λ o. told_of o c) w.routers id none refl s.router; waiting = refl })
    where
      v : WorldState
      v = with_routers w (insert_entry (slice_cmp nat_cmp) w.routers id (new_router id))

      none : router_of w.routers id ≡ None
      none = not_there (router_of w.routers id) (free_name w id free).0

      routers : (x : Name) → router_of v.routers x ≡ cond (is_named x id) (Some (new_router id)) (router_of w.routers x)
      routers x = value_new w.routers id x (new_router id) none

      taken : (c : Name) → is_taken v c ≡ false → is_taken w c ≡ false
      taken c e =
          let parts = or_parts (is_some (router_of v.routers c)) (is_some (client_of w.clients c)) e in
          ap (λ b. b || is_some (client_of w.clients c)) (none_before (is_named c id) (new_router id) (router_of w.routers c) (ap is_some (sym (routers c)) ∙ parts.0)) ∙ parts.1

  -- ---- ends alone

  linked : (one other : Name) (weight : ℕ) → there_in w one ≡ true → there_in w other ≡ true → AreTold (with_ends w (put_end (put_end w.ends (one, other) (new_end weight)) (other, one) (new_end weight))) now.report
  linked one other weight here there = still w now.report t (with_ends w es) now.report t.routers (λ c e. e) (λ c. refl) (λ c. refl)
      (λ c s client m is. record { told = refl; waiting = same waiting_at s.router c s client })
    where
      es : Ends
      es = put_end (put_end w.ends (one, other) (new_end weight)) (other, one) (new_end weight)

      same : {Y : Type 0} (f : Option EndState → Y) (x c : Name) (s : ClientState) → client_of w.clients c ≡ Some s → f (end_of es (x, c)) ≡ f (end_of w.ends (x, c))
      same f x c s client =
          read_put_end (put_end w.ends (one, other) (new_end weight)) (other, one) (new_end weight) f (x, c)
          ∙ ap (λ b. cond b (f (Some (new_end weight))) (f (end_of (put_end w.ends (one, other) (new_end weight)) (x, c)))) (not_to w h other one x c s here client)
          ∙ read_put_end w.ends (one, other) (new_end weight) f (x, c)
          ∙ ap (λ b. cond b (f (Some (new_end weight))) (f (end_of w.ends (x, c)))) (not_to w h one other x c s there client)

  -- what is queued at a link that breaks stays there
  breaks : (router name : Name) → AreTold (with_ends w (changed (changed w.ends (router, name) broken) (name, router) broken)) now.report
  breaks router name = still w now.report t (with_ends w (changed half (name, router) broken)) now.report t.routers (λ c e. e) (λ c. refl) (λ c. refl)
      (λ c s client m is. record {
        told = refl;
        waiting = keep_changed half (name, router) broken waiting_at (s.router, c) (λ e. refl) ∙ keep_changed w.ends (router, name) broken waiting_at (s.router, c) (λ e. refl);
      })
    where
      half : Ends
      half = changed w.ends (router, name) broken

  -- ---- a client says something, and it may weigh

  module _ (n : ℕ) (name : Name) (s : ClientState) (e : EndState) (at_end : end_of w.ends (s.router, name) ≡ Some e) (msg : Msg) where
    said : (routers : Routers) (clients : Clients) → ((x : Name) (r : RouterState) → router_of routers x ≡ Some r → Informs r.node r.told) → ((c : Name) → is_some (router_of routers c) ≡ is_some (router_of w.routers c)) →
        ((x c : Name) → told_of (router_of routers x) c ≡ told_of (router_of w.routers x) c) → SameHomes w.clients clients → AreTold (with_clients (with_routers (w_sent w n name s e msg) routers) clients) now.report
    said routers clients informs there told homes =
        still w now.report t v now.report informs (λ c free. sym (same_taken w v there homes c) ∙ free) (λ c. refl) homes
        (λ c q client m is. record {
          told = told q.router c;
          waiting = keep_with_end w.ends (s.router, name) (sent e msg n) waiting_at (q.router, c) e at_end refl;
        })
      where
        v : WorldState
        v = with_clients (with_routers (w_sent w n name s e msg) routers) clients

    -- its router has the weight of it
    weighed : (key : List ℕ) (r : RouterState) → router_of w.routers s.router ≡ Some r → (clients : Clients) → SameHomes w.clients clients →
        AreTold (with_clients (with_routers (w_sent w n name s e msg) (with_router w.routers s.router (weighing r key))) clients) now.report
    weighed key r there clients homes = said (with_router w.routers s.router (weighing r key)) clients
        (λ x q is. either_router (λ q. Informs q.node q.told) (router_of w.routers x) q (weighing r key) (is_named s.router x) (t.routers x) (t.routers s.router r there) (sym (read_after (λ o. o) w.routers s.router x r (weighing r key) there) ∙ is))
        (λ c. read_kept is_some w.routers s.router c r (weighing r key) there refl) (λ x c. read_kept (λ o. told_of o c) w.routers s.router x r (weighing r key) there refl) homes

    unweighed : (clients : Clients) → SameHomes w.clients clients → AreTold (with_clients (w_sent w n name s e msg) clients) now.report
    unweighed clients homes = said w.routers clients t.routers (λ c. refl) (λ x c. refl) homes

  one_home : (name : Name) (s q : ClientState) → client_of w.clients name ≡ Some s → q.router ≡ s.router → SameHomes w.clients (with_client w.clients name q)
  one_home name s q found same c = read_kept (option_map (λ (z : ClientState). z.router)) w.clients name c s q found (ap Some same)

  home_of : (s : ClientState) (kind : Kind) (id : ℕ) → ((declaring s kind id).router ≡ s.router) × ((undeclaring s kind id).router ≡ s.router)
  home_of s k.Sub id = (refl, refl)
  home_of s k.Able id = (refl, refl)
  home_of s k.Full id = (refl, refl)
  home_of s k.Token id = (refl, refl)

  says : (n : ℕ) (client : Name) (msg : Msg) → Says now TellsThen n client msg
  says n client msg s found e at_end unbroken clients same = alone _ (unweighed n client s e at_end msg clients (same_homes w.clients clients same))

  weighs : (n : ℕ) (client : Name) (key : List ℕ) (msg : Msg) → Weighs now TellsThen n client key msg
  weighs n client key msg s found e at_end unbroken r there room clients same = alone _ (weighed n client s e at_end msg key r there clients (same_homes w.clients clients same))

  -- ---- a router hears of an event

  module _ (router : Name) (r : RouterState) (found : router_of w.routers router ≡ Some r) where
    up_told : (n : ℕ) (name : Name) (s : EndState) → end_of w.ends (router, name) ≡ Some s → s.unbroken ≡ true → s.up ≡ false → AreTold (w_up w n router name r s) now.report
    up_told n name s at_end unbroken down = heard_told w now.report t sound h router r found (up_event r (peer_of w name s.weight)) n es (up_unique w sound h router r found (peer_of w name s.weight) none)
        (λ c q client m is. record {
          there = keep_with_end w.ends (router, name) (lifted s) is_some (q.router, c) s at_end refl ∙ sound.clients c q client;
          links = up_links w sound h router r found (peer_of w name s.weight) none c
              ∙ ap (λ b. cond b (Some (new_link (record { 0 = free_link r.node.links }) (peer_of w name s.weight))) (link_to r.node.links c)) (other c q client);
          waiting = keep_with_end w.ends (router, name) (lifted s) waiting_at (q.router, c) s at_end refl;
        })
      where
        es : Ends
        es = with_end w.ends (router, name) (lifted s)

        none : link_to r.node.links name ≡ None
        none = no_link_down w sound h router r found name s at_end down

        -- a client's link that is unbroken is up
        other : (c : Name) (q : ClientState) → client_of w.clients c ≡ Some q → is_named name c ≡ false
        other c q client = false_from_ne_true (is_named name c) (λ same.
            true≢false (sym same ∙ not_down w sound h router r found name s at_end down c q client (ap unbroken_at (its_end w sound h router r found name c q client same s at_end) ∙ unbroken)))

    -- what was queued there is lost, and nothing is kept of what was told there
    down_told : (n : ℕ) (name : Name) (s : EndState) → end_of w.ends (router, name) ≡ Some s → (j : LinkPeer) → link_to r.node.links name ≡ Some j → AreTold (w_down w n router name r j.link) now.report
    down_told n name s at_end j linked = still half now.report told v now.report told.routers (λ c e. e) (λ c. refl) (λ c. refl)
        (λ c q client m is. record {
          told = refl;
          waiting = read_changed half.ends (router, name) lowered waiting_at (q.router, c)
              ∙ ap (λ b. cond b (waiting_at (option_map lowered (end_of half.ends (q.router, c)))) (waiting_at (end_of half.ends (q.router, c))))
              (other_end router q.router name c (other c q client m is));
        })
      where
        half : WorldState
        half = heard w router r (Down j.link) n

        v : WorldState
        v = w_down w n router name r j.link

        -- a client that its router has a link to is another one
        other : (c : Name) (q : ClientState) → client_of w.clients c ≡ Some q → (m : ToldMap) → told_of (router_of half.routers q.router) c ≡ Some m → is_named name c ≡ false
        other c q client m is = false_from_ne_true (is_named name c) (λ same.
            let home : q.router ≡ router = h.homes router c q client (ap is_some (ap (λ (y : Name). end_of w.ends (router, y)) (sym (same_is name c same)) ∙ at_end)) in
            let gone : told_of (router_of half.routers router) c ≡ None =
            told_then w now.report t sound h router r found (Down j.link) n w.ends (down_unique w sound h router r found j) router c
            ∙ ap (λ b. cond b (told_of (Some (having_told r (Down j.link))) c) (told_of (router_of w.routers router) c)) (same_refl router)
            ∙ ap (option_map (λ (l : LinkPeer). map_on (having_told r (Down j.link)).told l.link.0)) (down_links w sound h router r found name j linked c ∙ ap (λ b. cond b None (link_to r.node.links c)) same) in
            true≢false (ap is_some (sym is ∙ ap (λ (x : Name). told_of (router_of half.routers x) c) home ∙ gone)))

        told : AreTold half now.report
        told = heard_told w now.report t sound h router r found (Down j.link) n w.ends (down_unique w sound h router r found j)
            (λ c q client m is. record {
              there = sound.clients c q client;
              links = down_links w sound h router r found name j linked c ∙ ap (λ b. cond b None (link_to r.node.links c)) (other c q client m is);
              waiting = refl;
            })

    handled : (name : Name) (s : EndState) → end_of w.ends (router, name) ≡ Some s → (link : LinkNo) (msg : Msg) (tag : ℕ) (xs : List Tagged) → AreTold (w_handle w router name r s link msg tag xs) now.report
    handled name s at_end link msg tag xs = heard_told w now.report t sound h router r found (From link msg) tag es (from_unique w sound h router r found link msg)
        (λ c q client m is. record {
          there = keep_with_end w.ends (router, name) (with_wire s xs) is_some (q.router, c) s at_end refl ∙ sound.clients c q client;
          links = ap (λ (ls : List LinkPeer). link_to ls c) (links_from r.node link msg);
          waiting = keep_with_end w.ends (router, name) (with_wire s xs) waiting_at (q.router, c) s at_end refl;
        })
      where
        es : Ends
        es = with_end w.ends (router, name) (with_wire s xs)

    -- a client comes: it was told nothing
    client_comes : (n : ℕ) (name : Name) → is_taken w name ≡ false → AreTold (w_client w n name router r) now.report
    client_comes n name free = record {
      routers = router_informs w now.report t sound h router r found event n es unique;
      fresh = λ c none. t.fresh c (was_free c none);
      agrees = λ c q client m is. agrees c q m is (is_named c name) refl (sym (clients c) ∙ client);
    }
      where
        peer : PeerState
        peer = record { id = name; role = Client; weight = 1 }

        event : Event
        event = up_event r peer

        es : Ends
        es = put_end w.ends (router, name) (lifted (new_end 1))

        v : WorldState
        v = w_client w n name router r

        link : LinkPeer
        link = new_link (record { 0 = free_link r.node.links }) peer

        gone : (is_some (router_of w.routers name) ≡ false) × (is_some (client_of w.clients name) ≡ false)
        gone = free_name w name free

        no_link : link_to r.node.links name ≡ None
        no_link = no_link_new w sound h router r found name free

        unique : AreUnique (after r.node event).links
        unique = up_unique w sound h router r found peer no_link

        clients : (c : Name) → client_of v.clients c ≡ cond (is_named c name) (Some (new_client router)) (client_of w.clients c)
        clients c = value_new w.clients name c (new_client router) (not_there (client_of w.clients name) gone.1)

        was_free : (c : Name) → is_taken v c ≡ false → is_taken w c ≡ false
        was_free c e =
            let parts = or_parts (is_some (router_of v.routers c)) (is_some (client_of v.clients c)) e in
            ap (λ b. b || is_some (client_of w.clients c)) (sym (routers_then w now.report t sound h router r found event n es unique c) ∙ parts.0)
            ∙ none_before (is_named c name) (new_client router) (client_of w.clients c) (ap is_some (sym (clients c)) ∙ parts.1)

        its_links : link_to (after r.node event).links name ≡ Some link
        its_links = up_links w sound h router r found peer no_link name ∙ ap (λ b. cond b (Some link) (link_to r.node.links name)) (same_refl name)

        its_own : (m : ToldMap) → told_of (router_of v.routers router) name ≡ Some m → Agrees m (leave (told_by now.report name ++ waits v.ends router name))
        its_own m is = subst (λ z. Agrees z (leave (told_by now.report name ++ waits v.ends router name))) map_is (subst (λ z. Agrees (map_on (having_told r event).told link.link.0) (leave z)) (sym sent_is)
            (event_agrees r event name link its_links leads [] nothing))
          where
            leads : leads_to_client (after r.node event).links link.link.0 ≡ true
            leads = ap (λ (o : Option LinkPeer). option_map_or (λ j. not (is_router j.peer.role)) o false) (numbered_link (after r.node event).links unique name link its_links)

            nothing : Agrees (map_on r.told link.link.0) (leave [])
            nothing = subst (λ z. Agrees z (leave [])) (sym ((t.routers router r found).forgotten link.link.0
                (ap (λ (o : Option LinkPeer). option_map_or (λ j. not (is_router j.peer.role)) o false) (free_is_free r.node.links)))) start_agrees

            told_is : told_of (router_of v.routers router) name ≡ Some (map_on (having_told r event).told link.link.0)
            told_is = told_then w now.report t sound h router r found event n es unique router name
                ∙ ap (λ b. cond b (told_of (Some (having_told r event)) name) (told_of (router_of w.routers router) name)) (same_refl router)
                ∙ ap (option_map (λ (l : LinkPeer). map_on (having_told r event).told l.link.0)) its_links

            map_is : map_on (having_told r event).told link.link.0 ≡ m
            map_is = let e : Some (map_on (having_told r event).told link.link.0) ≡ Some m = sym told_is ∙ is in cc

            end_is : end_of es (router, name) ≡ Some (lifted (new_end 1))
            end_is = read_put_end w.ends (router, name) (lifted (new_end 1)) (λ o. o) (router, name) ∙ ap (λ b. cond b (Some (lifted (new_end 1))) (end_of w.ends (router, name))) (ends.refl (router, name))

            sent_is : told_by now.report name ++ waits v.ends router name ≡ sends_to r.node event name ++ tells_to r event name
            sent_is = ap (λ z. z ++ waits v.ends router name) (t.fresh name free)
                ∙ waits_then w now.report t sound h router r found event n es unique router name (ap is_some end_is)
                ∙ ap (λ b. cond b (waits es router name ++ (sends_to r.node event name ++ tells_to r event name)) (waits es router name)) (same_refl router)
                ∙ ap (λ o. waiting_at o ++ (sends_to r.node event name ++ tells_to r event name)) end_is

        agrees : (c : Name) (q : ClientState) (m : ToldMap) → told_of (router_of v.routers q.router) c ≡ Some m → (b : Bool) → is_named c name ≡ b →
            cond b (Some (new_client router)) (client_of w.clients c) ≡ Some q → Agrees m (leave (told_by now.report c ++ waits v.ends q.router c))
        agrees c q m is true same client =
            let one : new_client router ≡ q = cc in
            subst (λ (z : ClientState). told_of (router_of v.routers z.router) c ≡ Some m → Agrees m (leave (told_by now.report c ++ waits v.ends z.router c))) one
            (subst (λ (y : Name). told_of (router_of v.routers router) y ≡ Some m → Agrees m (leave (told_by now.report y ++ waits v.ends router y))) (sym (same_is c name same)) (its_own m)) is
        agrees c q m is false apart client = hears_agrees w now.report t sound h router r found event n es unique c q client
            (record {
              there = read_put_end w.ends (router, name) (lifted (new_end 1)) is_some (q.router, c) ∙ ap (λ b. cond b true (is_some (end_of w.ends (q.router, c)))) away ∙ sound.clients c q client;
              links = up_links w sound h router r found peer no_link c ∙ ap (λ b. cond b (Some link) (link_to r.node.links c)) other;
              waiting = read_put_end w.ends (router, name) (lifted (new_end 1)) waiting_at (q.router, c) ∙ ap (λ b. cond b [] (waits w.ends q.router c)) away;
            }) m is
          where
            other : is_named name c ≡ false
            other = names.symm name c ∙ apart

            away : is_end (router, name) (q.router, c) ≡ false
            away = other_end router q.router name c other

  -- ---- a message is taken

  module _ (router to : Name) (s : EndState) (at_end : end_of w.ends (router, to) ≡ Some s) (here : there_in w router ≡ true) (there : is_taken w to ≡ true) (msg : Msg) (tag : ℕ) (xs : List Tagged)
      (front : s.queue ≡ record { msg = msg; tag = tag } ∷ xs) where
    abbrev taken_world : WorldState
    taken_world = w_take w router to s msg tag xs

    abbrev more : List ReportLine
    more = now.report ++ line.Taken router to msg tag ∷ []

    taken_homes : SameHomes w.clients taken_world.clients
    taken_homes = same_homes w.clients taken_world.clients (same_received w.clients to msg)

    -- a client's end isn't the other one of the link
    taken_end : {Y : Type 0} (f : Option EndState → Y) (x c : Name) (q : ClientState) → client_of w.clients c ≡ Some q →
        f (end_of taken_world.ends (x, c)) ≡ cond (is_end (router, to) (x, c)) (f (Some (with_queue s xs))) (f (end_of w.ends (x, c)))
    taken_end f x c q client =
        read_changed es (to, router) (λ e. sent e msg tag) f (x, c)
        ∙ ap (λ b. cond b (f (option_map (λ e. sent e msg tag) (end_of es (x, c)))) (f (end_of es (x, c)))) (not_to w h to router x c q here client)
        ∙ read_with_end w.ends (router, to) (with_queue s xs) f (x, c) (ap is_some at_end)
      where
        es : Ends
        es = with_end w.ends (router, to) (with_queue s xs)

    -- what was sent comes behind what was sent before, and the rest still waits
    taken_same : (c : Name) (q : ClientState) → client_of w.clients c ≡ Some q → told_by more c ++ waits taken_world.ends q.router c ≡ told_by now.report c ++ waits w.ends q.router c
    taken_same c q client =
        ap (λ z. z ++ waits taken_world.ends q.router c) (told_more now.report router to msg tag c)
        ∙ ap (λ z. (told_by now.report c ++ cond (is_named c to) (msg ∷ []) []) ++ z) (taken_end waiting_at q.router c q client)
        ∙ by (is_named c to) refl
      where
        by : (b : Bool) → is_named c to ≡ b → (told_by now.report c ++ cond b (msg ∷ []) []) ++ cond (is_end (router, to) (q.router, c)) (msgs_in xs) (waits w.ends q.router c) ≡ told_by now.report c ++ waits w.ends q.router c
        by false e =
            ap (λ b. (told_by now.report c ++ []) ++ cond b (msgs_in xs) (waits w.ends q.router c)) (other_end router q.router to c (names.symm to c ∙ e))
            ∙ ap (λ z. z ++ waits w.ends q.router c) (append-nil (told_by now.report c))
        by true e =
            let its : end_of w.ends (router, c) ≡ Some s = ap (λ (y : Name). end_of w.ends (router, y)) (same_is c to e) ∙ at_end in
            let home : q.router ≡ router = h.homes router c q client (ap is_some its) in
            let its_own : is_end (router, to) (q.router, c) ≡ true = ap (λ (x : Name). is_end (router, to) (x, c)) home ∙ ap (λ (y : Name). is_end (router, to) (router, y)) (same_is c to e) ∙ ends.refl (router, to) in
            let waited : waits w.ends q.router c ≡ msg ∷ msgs_in xs = ap (λ (x : Name). waits w.ends x c) home ∙ ap waiting_at its ∙ ap msgs_in front in
            ap (λ b. (told_by now.report c ++ (msg ∷ [])) ++ cond b (msgs_in xs) (waits w.ends q.router c)) its_own
            ∙ append_assoc (told_by now.report c) (msg ∷ []) (msgs_in xs) ∙ ap (λ z. told_by now.report c ++ z) (sym waited)

    message_taken : AreTold taken_world more
    message_taken = record {
      routers = t.routers;
      fresh = λ c free.
          let was : is_taken w c ≡ false = sym (same_taken w taken_world (λ c. refl) taken_homes c) ∙ free in
          told_more now.report router to msg tag c
          ∙ ap (λ b. told_by now.report c ++ cond b (msg ∷ []) []) (false_from_ne_true (is_named c to) (λ e. true≢false (sym there ∙ ap (is_taken w) (sym (same_is c to e)) ∙ was)))
          ∙ append-nil (told_by now.report c) ∙ t.fresh c was;
      agrees = λ c q client m is.
          let o = home_was w.clients taken_world.clients taken_homes c q client in
          subst (λ (x : Name). told_of (router_of w.routers x) c ≡ Some m → Agrees m (leave (told_by more c ++ waits taken_world.ends x c))) o.2
          (λ e. subst (λ z. Agrees m (leave z)) (sym (taken_same c o.0 o.1)) (t.agrees c o.0 o.1 m e)) is;
    }

  -- ---- the acts

  pub tells_keep : (n : ℕ) (act : Act) → IfSome (went now (outcome w n act)) TellsThen
  unfolding outcome
  tells_keep n (a.Router id) = for_router now TellsThen id (λ free room. alone _ (router_comes id free))
  tells_keep n (a.Client id router) = for_client now TellsThen n id router (λ r found free room taken. alone _ (client_comes router r found n id free))
  tells_keep n (a.Link one other weight) = for_link now TellsThen one other weight (λ apart r found q found' new room. alone _ (linked one other weight (ap is_some found) (ap is_some found')))
  tells_keep n (a.Up router name) = for_up now TellsThen n router name (λ r found there s at_end unbroken down taken. alone _ (up_told router r found n name s at_end unbroken down))
  tells_keep n (a.Break router name) = for_break now TellsThen router name (λ r found there s at_end unbroken. alone _ (breaks router name))
  tells_keep n (a.Down router name) = for_down now TellsThen n router name (λ r found there s at_end up cut link number taken.
      let j = number_found r name link number in
      subst (λ q. AreTold (w_down w n router name r q) (now.report ++ [])) j.2 (alone _ (down_told router r found n name s at_end j.0 j.1)))
  tells_keep n (a.Sub client id key) = for_declare now TellsThen n client k.Sub id key (m.Sub id key) (λ s found fresh e at_end unbroken r there room.
      alone _ (weighed n client s e at_end (m.Sub id key) key r there (with_client w.clients client (declaring s k.Sub id)) (one_home client s (declaring s k.Sub id) found refl)))
  tells_keep n (a.Unsub client id) = for_undeclare now TellsThen n client k.Sub id (m.Unsub id) (λ s found known e at_end unbroken.
      alone _ (unweighed n client s e at_end (m.Unsub id) (with_client w.clients client (undeclaring s k.Sub id)) (one_home client s (undeclaring s k.Sub id) found refl)))
  tells_keep n (a.Token client id key) = for_declare now TellsThen n client k.Token id key (m.Token id key) (λ s found fresh e at_end unbroken r there room.
      alone _ (weighed n client s e at_end (m.Token id key) key r there (with_client w.clients client (declaring s k.Token id)) (one_home client s (declaring s k.Token id) found refl)))
  tells_keep n (a.Untoken client id) = for_undeclare now TellsThen n client k.Token id (m.Untoken id) (λ s found known e at_end unbroken.
      alone _ (unweighed n client s e at_end (m.Untoken id) (with_client w.clients client (undeclaring s k.Token id)) (one_home client s (undeclaring s k.Token id) found refl)))
  tells_keep n (a.Able client id key complete) = for_declare now TellsThen n client (able_kind complete) id key (m.Able id key complete) (λ s found fresh e at_end unbroken r there room.
      alone _ (weighed n client s e at_end (m.Able id key complete) key r there (with_client w.clients client (declaring s (able_kind complete) id))
      (one_home client s (declaring s (able_kind complete) id) found (home_of s (able_kind complete) id).0)))
  tells_keep n (a.Unable client id) = for_undeclare now TellsThen n client k.Able id (m.Unable id) (λ s found known e at_end unbroken.
      alone _ (unweighed n client s e at_end (m.Unable id) (with_client w.clients client (undeclaring s k.Able id)) (one_home client s (undeclaring s k.Able id) found refl)))
  tells_keep n (a.Interest client id mode kinds key aggregate) =
      let msg : Msg = m.Interest id (is_current mode) (is_future mode) kinds key aggregate in
      interest_says now TellsThen n client id mode kinds key aggregate (says n client msg) (weighs n client (unwrap_or key []) msg)
  tells_keep n (a.Uninterest client id) = uninterest_says now TellsThen n client id (says n client (m.EndInterest id))
  tells_keep n (a.Publish client content) = publish_says now TellsThen n client content (says n client (m.Push None content))
  tells_keep n (a.Get client number target content) = get_says now TellsThen n client number target content (says n client (m.Request None number target content))
  tells_keep n (a.Reply client number content) = reply_says now TellsThen n client number content (says n client (m.Response number content))
  tells_keep n (a.End client number) = end_says now TellsThen n client number (says n client (m.Final number no_extras))
  tells_keep n (a.Handle router from) = for_handle now TellsThen router from (λ r found there s at_end up msg tag xs front link number taken.
      reported _ now.report (now.report ++ line.Handled router from msg tag ∷ []) (untold now.report (line.Handled router from msg tag ∷ []) (λ c. refl)) (handled router r found from s at_end link msg tag xs))
  tells_keep n (a.Take router to) = for_take now TellsThen router to (λ r found there s at_end up unbroken msg tag xs front. message_taken router to s at_end (ap is_some found) there msg tag xs front)
  tells_keep n a.Mark = for_mark now TellsThen n (λ settled joined. reported w now.report (now.report ++ line.Mark n ∷ []) (untold now.report (line.Mark n ∷ []) (λ c. refl)) t)
  tells_keep n (a.Show router) = for_show now TellsThen router (λ r found.
      reported w now.report (now.report ++ line.Show router ∷ shown r.node) (untold now.report (line.Show router ∷ shown r.node) (shown_untold router r.node)) t)
