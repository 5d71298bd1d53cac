-- A test that all messages pass which are under way, and one that all samples pass which were sent: acts that put no other
-- messages on their way keep it so. It serves tags, and worlds in which no client has sent anything.
use Rattle.std.proofs.Common.{◌≡◌, ℕ, Bool, true, false, cond, List, [], ◌∷◌, ◌++◌, map, Option, Some, None, refl, sym, ap, ◌∙◌}
use Rattle.std.specs.Prelude.{not, is_some, filter, unwrap_or, IfSome}
use Rattle.std.specs.List.{list_all}
use Rattle.std.specs.Option.{option_map_or}
use Rattle.std.proofs.lemmas.Bool.{and_parts, and_from}
use Rattle.zr_id.specs.Record.{RecordState}
use Rattle.zr_id.specs.Zid.{is_named}
use Rattle.zr_id.specs.declared.link.LinkNo.{LinkNo}
use Rattle.zr_graph.specs.Record.{ids}
use Rattle.zr_graph.specs.Base.{BaseState}
use Rattle.zr_log.specs.declared.log.Log.{Log}
use Rattle.zr_msg.specs.declared.decl.Kind.{Kind}
use Rattle.zr_msg.specs.declared.decl.Kind.TheVariants as sort
use Rattle.zr_msg.specs.Extras.{no_extras}
use Rattle.zr_msg.specs.declared.msg.Msg.{Msg}
use Rattle.zr_msg.specs.declared.msg.Msg.TheVariants as m
use Rattle.zr_msg.specs.declared.event.Event.{Event}
use Rattle.zr_msg.specs.declared.event.Event.TheVariants.{Down, From}
use Rattle.zr_msg.specs.Peer.{PeerState}
use Rattle.zr_msg.specs.declared.peer.Role.TheVariants as role
use Rattle.zr_script_spec.specs.declared.command.Act.{Act}
use Rattle.zr_script_spec.specs.declared.command.Act.TheVariants as c
use Rattle.zr_script_spec.specs.Mode.{is_current, is_future}
use Rattle.zr_script_spec.specs.declared.report.ReportLine.{ReportLine}
use Rattle.zr_script_spec.specs.declared.report.ReportLine.TheVariants as line
use Rattle.zr_node_spec.specs.Tables.{link_to}
use Rattle.zr_node_spec.specs.State.{NodeState}
use Rattle.zr_msg.specs.declared.peer.LinkPeer.{LinkPeer}
use Rattle.zr_node_spec.specs.Table.{able_kind, sends, after}
use Rattle.zr_world_spec.specs.World.{Tagged, ClientState, RouterState, EndState, Ends, end_of, broken, lifted, lowered, sent, with_wire, with_queue, new_end, with_end, put_end, changed}
use Rattle.zr_world_spec.specs.Acts.{peer_of, up_event, sends_to, told_to, all_queued, parent_line, source_line, shown_base, shown, declare_step, undeclare_step, outcome}
use Rattle.zr_world_spec.specs.Moments.{Moment, went}
use Rattle.zr_guarantee.specs.Item.{Item}
use Rattle.zr_guarantee.specs.Sent.{item_of, sent_to}
use Rattle.zr_law_samples.proofs.Told.{sent_append, sent_taken}
use Rattle.zr_world_spec.proofs.Cases.{for_router, for_client, for_link, for_up, for_break, for_down, for_declare, for_undeclare, Says, Weighs, interest_says, uninterest_says, publish_says, get_says, reply_says, end_says, for_handle, for_take, for_mark, for_show}
use Rattle.zr_lists.proofs.Tests.{all_both, weaker}
use Rattle.zr_world_spec.proofs.Telling.{is_told, told_alone}
use Rattle.zr_law_settled.proofs.Ends.{AtEnds, of_found, with_end_all, put_end_all, changed_all, all_queued_all}
use Rattle.zr_law_declared.proofs.Hearing.{all_heard}
use Rattle.zr_law_samples.proofs.ToldMessages.{told_all}

-- all that waits at an end passes
abbrev pub Passes : (Tagged → Bool) → EndState → Type 0
Passes t s = (list_all t s.wire ≡ true) × (list_all t s.queue ≡ true)

pub record Watched (t : Tagged → Bool) (i : Item → Bool) (now : Moment) : Type 0 where
  pub waits : AtEnds (Passes t) now.world.ends
  pub sends_only : (q : List ℕ) → list_all i (sent_to now.report q) ≡ true

-- what a router sends passes, with a tag, and so does all that it may tell its clients
abbrev pub AllPass : (Tagged → Bool) → ℕ → NodeState → Event → Type 0
AllPass t tag node event =
    ((to : LinkNo) → list_all (λ z. t (record { msg = z; tag = tag })) (sends node event to) ≡ true) × ((msg : Msg) → is_told msg ≡ true → t (record { msg = msg; tag = tag }) ≡ true)

-- what an act puts on its way passes
abbrev pub Allows : (Tagged → Bool) → ℕ → Act → Type 0
Allows t n (c.Router id) = Unit {0}
Allows t n (c.Client id router) = (r : RouterState) (peer : PeerState) → AllPass t n r.node (up_event r peer)
Allows t n (c.Link one other weight) = Unit {0}
Allows t n (c.Up router neighbour) = (r : RouterState) (peer : PeerState) → AllPass t n r.node (up_event r peer)
Allows t n (c.Break router neighbour) = Unit {0}
Allows t n (c.Down router neighbour) = (node : NodeState) (link : LinkNo) → AllPass t n node (Down link)
Allows t n (c.Sub client id key) = t (record { msg = m.Sub id key; tag = n }) ≡ true
Allows t n (c.Unsub client id) = t (record { msg = m.Unsub id; tag = n }) ≡ true
Allows t n (c.Token client id key) = t (record { msg = m.Token id key; tag = n }) ≡ true
Allows t n (c.Untoken client id) = t (record { msg = m.Untoken id; tag = n }) ≡ true
Allows t n (c.Able client id key complete) = t (record { msg = m.Able id key complete; tag = n }) ≡ true
Allows t n (c.Unable client id) = t (record { msg = m.Unable id; tag = n }) ≡ true
Allows t n (c.Interest client id mode kinds key aggregate) = t (record { msg = m.Interest id (is_current mode) (is_future mode) kinds key aggregate; tag = n }) ≡ true
Allows t n (c.Uninterest client id) = t (record { msg = m.EndInterest id; tag = n }) ≡ true
Allows t n (c.Publish client content) = t (record { msg = m.Push None content; tag = n }) ≡ true
Allows t n (c.Get client number target content) = t (record { msg = m.Request None number target content; tag = n }) ≡ true
Allows t n (c.Reply client number content) = t (record { msg = m.Response number content; tag = n }) ≡ true
Allows t n (c.End client number) = t (record { msg = m.Final number no_extras; tag = n }) ≡ true
Allows t n (c.Handle router from) = Unit {0}
Allows t n (c.Take router to) = Unit {0}
Allows t n c.Mark = Unit {0}
Allows t n (c.Show router) = Unit {0}

-- ---- report lines

-- the report of a router's tables has no sample
shows_no_base : (b : BaseState) (q : List ℕ) → sent_to (shown_base b) q ≡ []
shows_no_base b q =
    sent_append (map (λ r. line.Record r) b.records) (map (λ root. parent_line b root) (filter (λ id. not (is_named id b.me)) (ids b.records))) q
    ∙ rw (records b.records, parents (filter (λ id. not (is_named id b.me)) (ids b.records))) refl
  where
    records : (rs : List RecordState) → sent_to (map (λ r. line.Record r) rs) q ≡ []
    records [] = refl
    records (r ∷ rs) = records rs

    parents : (xs : List (List ℕ)) → sent_to (map (λ root. parent_line b root) xs) q ≡ []
    parents [] = refl
    parents (x ∷ xs) = parents xs

pub shows_nothing : (node : NodeState) (q : List ℕ) → sent_to (shown node) q ≡ []
shows_nothing node q = sent_append (shown_base node.base) (map source_line node.known.logs) q ∙ rw (shows_no_base node.base q) (sources node.known.logs)
  where
    sources : (logs : List Log) → sent_to (map source_line logs) q ≡ []
    sources [] = refl
    sources (x ∷ xs) = sources xs

-- ---- messages

-- messages with one tag
pub tagged_all : (t : Tagged → Bool) (tag : ℕ) (ms : List Msg) → list_all (λ z. t (record { msg = z; tag = tag })) ms ≡ true →
    list_all t (map (λ z. record { msg = z; tag = tag }) ms) ≡ true
tagged_all t tag [] h = refl
tagged_all t tag (x ∷ xs) h =
    let parts = and_parts (t (record { msg = x; tag = tag })) (list_all (λ z. t (record { msg = z; tag = tag })) xs) h in
    and_from (t (record { msg = x; tag = tag })) (list_all t (map (λ z. record { msg = z; tag = tag }) xs)) parts.0 (tagged_all t tag xs parts.1)

-- what a router sends to a neighbour
to_pass : (t : Tagged → Bool) (tag : ℕ) (node : NodeState) (event : Event) → AllPass t tag node event → (y : List ℕ) →
    list_all (λ z. t (record { msg = z; tag = tag })) (sends_to node event y) ≡ true
to_pass t tag node event h y = by (link_to (after node event).links y)
  where
    by : (o : Option LinkPeer) → list_all (λ z. t (record { msg = z; tag = tag })) (option_map_or (λ l. sends node event l.link) o []) ≡ true
    by None = refl
    by (Some l) = h.0 l.link

-- what a router has heard of, and what its clients were told
hearing_passes : (t : Tagged → Bool) (es : Ends) (x : List ℕ) (r : RouterState) (event : Event) (tag : ℕ) → AllPass t tag r.node event → AtEnds (Passes t) es →
    AtEnds (Passes t) (all_heard es x r event tag)
hearing_passes t es x r event tag says h =
    told_all (Passes t) (all_queued es x r.node event tag)
    (all_queued_all (Passes t) es h x r.node event tag
    (λ y s k. (k.0, all_both t s.queue (map (λ z. record { msg = z; tag = tag }) (sends_to r.node event y)) k.1 (tagged_all t tag (sends_to r.node event y) (to_pass t tag r.node event says y)))))
    x r event tag
    (λ y s k. (
      k.0,
      all_both t s.queue (map (λ z. record { msg = z; tag = tag }) (told_to r event y)) k.1
          (tagged_all t tag (told_to r event y) (weaker is_told (λ z. t (record { msg = z; tag = tag })) says.1 (told_to r event y) (told_alone r event y))),
    ))

-- one message more on a wire
sent_passes : (t : Tagged → Bool) (s : EndState) (msg : Msg) (tag : ℕ) → t (record { msg = msg; tag = tag }) ≡ true → Passes t s → Passes t (sent s msg tag)
sent_passes t s msg tag h k = (all_both t s.wire (record { msg = msg; tag = tag } ∷ []) k.0 (and_from (t (record { msg = msg; tag = tag })) true h refl), k.1)

-- ---- acts

module _ (t : Tagged → Bool) (i : Item → Bool) (carried : (msg : Msg) (tag : ℕ) → t (record { msg = msg; tag = tag }) ≡ true → list_all i (item_of msg tag) ≡ true)
    (goes_on : (node : NodeState) (link : LinkNo) (msg : Msg) (tag : ℕ) → t (record { msg = msg; tag = tag }) ≡ true → AllPass t tag node (From link msg)) where
  module _ (now : Moment) (h : Watched t i now) where
    -- the report gains lines without samples
    more : (xs : List ReportLine) → ((q : List ℕ) → list_all i (sent_to xs q) ≡ true) → (q : List ℕ) → list_all i (sent_to (now.report ++ xs) q) ≡ true
    more xs k q = ap (list_all i) (sent_append now.report xs q) ∙ all_both i (sent_to now.report q) (sent_to xs q) (h.sends_only q) (k q)

    abbrev es : Ends
    es = now.world.ends

    -- a client's message
    wrote : (n : ℕ) (client : List ℕ) (s : ClientState) (msg : Msg) (en : EndState) → end_of es (s.router, client) ≡ Some en → t (record { msg = msg; tag = n }) ≡ true →
        AtEnds (Passes t) (with_end es (s.router, client) (sent en msg n))
    wrote n client s msg en ee k = with_end_all (Passes t) es h.waits (s.router, client) (sent en msg n) (ap is_some ee)
        (sent_passes t en msg n k (of_found (Passes t) (end_of es (s.router, client)) en ee (h.waits (s.router, client))))

    declares : (n : ℕ) (client : List ℕ) (kind : Kind) (id : ℕ) (key : List ℕ) (msg : Msg) → t (record { msg = msg; tag = n }) ≡ true →
        IfSome (went now (declare_step now.world n client kind id key msg)) (Watched t i)
    declares n client kind id key msg k = for_declare now (Watched t i) n client kind id key msg
        (λ s e fresh en ee unbroken r er room. record { waits = wrote n client s msg en ee k; sends_only = more [] (λ q. refl) })

    undeclares : (n : ℕ) (client : List ℕ) (kind : Kind) (id : ℕ) (msg : Msg) → t (record { msg = msg; tag = n }) ≡ true →
        IfSome (went now (undeclare_step now.world n client kind id msg)) (Watched t i)
    undeclares n client kind id msg k = for_undeclare now (Watched t i) n client kind id msg
        (λ s e known en ee unbroken. record { waits = wrote n client s msg en ee k; sends_only = more [] (λ q. refl) })

    says : (n : ℕ) (client : List ℕ) (msg : Msg) → t (record { msg = msg; tag = n }) ≡ true → Says now (Watched t i) n client msg
    says n client msg k s e en ee unbroken clients same = record { waits = wrote n client s msg en ee k; sends_only = more [] (λ q. refl) }

    weighs : (n : ℕ) (client key : List ℕ) (msg : Msg) → t (record { msg = msg; tag = n }) ≡ true → Weighs now (Watched t i) n client key msg
    weighs n client key msg k s e en ee unbroken r er room clients same = record { waits = wrote n client s msg en ee k; sends_only = more [] (λ q. refl) }

    pub act_watched : (n : ℕ) (act : Act) → Allows t n act → IfSome (went now (outcome now.world n act)) (Watched t i)
    unfolding outcome
    act_watched n (c.Router id) k = for_router now (Watched t i) id (λ free room. record { waits = h.waits; sends_only = more [] (λ q. refl) })
    act_watched n (c.Client id router) k = for_client now (Watched t i) n id router
        (λ r er free room taken. record {
          waits = hearing_passes t (put_end es (router, id) (lifted (new_end 1))) router r (up_event r (record { id = id; role = role.Client; weight = 1 })) n (k r (record { id = id; role = role.Client; weight = 1 })) (put_end_all (Passes t) es h.waits (router, id) (lifted (new_end 1)) (refl, refl));
          sends_only = more [] (λ q. refl);
        })
    act_watched n (c.Link one other weight) k = for_link now (Watched t i) one other weight
        (λ apart r er q eq free room. record {
          waits = put_end_all (Passes t) (put_end es (one, other) (new_end weight)) (put_end_all (Passes t) es h.waits (one, other) (new_end weight) (refl, refl)) (other, one) (new_end weight) (refl, refl);
          sends_only = more [] (λ q. refl);
        })
    act_watched n (c.Up router name) k = for_up now (Watched t i) n router name
        (λ r er there s es_ unbroken down taken. record {
          waits = hearing_passes t (with_end es (router, name) (lifted s)) router r (up_event r (peer_of now.world name s.weight)) n (k r (peer_of now.world name s.weight))
              (with_end_all (Passes t) es h.waits (router, name) (lifted s) (ap is_some es_) (of_found (Passes t) (end_of es (router, name)) s es_ (h.waits (router, name))));
          sends_only = more [] (λ q. refl);
        })
    act_watched n (c.Break router name) k = for_break now (Watched t i) router name
        (λ r er there s es_ unbroken. record {
          waits = changed_all (Passes t) (changed es (router, name) broken) (changed_all (Passes t) es h.waits (router, name) broken (λ s p. (refl, p.1))) (name, router) broken (λ s p. (refl, p.1));
          sends_only = more [] (λ q. refl);
        })
    act_watched n (c.Down router name) k = for_down now (Watched t i) n router name
        (λ r er there s es_ up cut l el taken. record {
          waits = changed_all (Passes t) (all_heard es router r (Down l) n) (hearing_passes t es router r (Down l) n (k r.node l) h.waits) (router, name) lowered (λ s p. (p.0, refl));
          sends_only = more [] (λ q. refl);
        })
    act_watched n (c.Sub client id key) k = declares n client sort.Sub id key (m.Sub id key) k
    act_watched n (c.Unsub client id) k = undeclares n client sort.Sub id (m.Unsub id) k
    act_watched n (c.Token client id key) k = declares n client sort.Token id key (m.Token id key) k
    act_watched n (c.Untoken client id) k = undeclares n client sort.Token id (m.Untoken id) k
    act_watched n (c.Able client id key complete) k = declares n client (able_kind complete) id key (m.Able id key complete) k
    act_watched n (c.Unable client id) k = undeclares n client sort.Able id (m.Unable id) k
    act_watched n (c.Interest client id mode kinds key aggregate) k =
        let msg : Msg = m.Interest id (is_current mode) (is_future mode) kinds key aggregate in
        interest_says now (Watched t i) n client id mode kinds key aggregate (says n client msg k) (weighs n client (unwrap_or key []) msg k)
    act_watched n (c.Uninterest client id) k = uninterest_says now (Watched t i) n client id (says n client (m.EndInterest id) k)
    act_watched n (c.Publish client content) k = publish_says now (Watched t i) n client content (says n client (m.Push None content) k)
    act_watched n (c.Get client number target content) k = get_says now (Watched t i) n client number target content (says n client (m.Request None number target content) k)
    act_watched n (c.Reply client number content) k = reply_says now (Watched t i) n client number content (says n client (m.Response number content) k)
    act_watched n (c.End client number) k = end_says now (Watched t i) n client number (says n client (m.Final number no_extras) k)
    act_watched n (c.Handle router from) k = for_handle now (Watched t i) router from
        (λ r er there s es_ up msg tag xs front l el taken.
        let old = of_found (Passes t) (end_of es (router, from)) s es_ (h.waits (router, from)) in
        let parts = and_parts (t (record { msg = msg; tag = tag })) (list_all t xs) (ap (list_all t) (sym front) ∙ old.0) in
        record {
          waits = hearing_passes t (with_end es (router, from) (with_wire s xs)) router r (From l msg) tag (goes_on r.node l msg tag parts.0)
              (with_end_all (Passes t) es h.waits (router, from) (with_wire s xs) (ap is_some es_) (parts.1, old.1));
          sends_only = more (line.Handled router from msg tag ∷ []) (λ q. refl);
        })
    act_watched n (c.Take router to) k = for_take now (Watched t i) router to
        (λ r er there s es_ up unbroken msg tag xs front.
        let old = of_found (Passes t) (end_of es (router, to)) s es_ (h.waits (router, to)) in
        let parts = and_parts (t (record { msg = msg; tag = tag })) (list_all t xs) (ap (list_all t) (sym front) ∙ old.1) in
        record {
          waits = changed_all (Passes t) (with_end es (router, to) (with_queue s xs))
              (with_end_all (Passes t) es h.waits (router, to) (with_queue s xs) (ap is_some es_) (old.0, parts.1)) (to, router) (λ e. sent e msg tag) (λ e p. sent_passes t e msg tag parts.0 p);
          sends_only = more (line.Taken router to msg tag ∷ []) (λ q. ap (list_all i) (sent_taken router to msg tag q) ∙ taken msg tag parts.0 (is_named q to));
        })
      where
        taken : (msg : Msg) (tag : ℕ) → t (record { msg = msg; tag = tag }) ≡ true → (b : Bool) → list_all i (cond b (item_of msg tag) []) ≡ true
        taken msg tag p true = carried msg tag p
        taken msg tag p false = refl
    act_watched n c.Mark k = for_mark now (Watched t i) n (λ settled joined. record { waits = h.waits; sends_only = more (line.Mark n ∷ []) (λ q. refl) })
    act_watched n (c.Show router) k = for_show now (Watched t i) router
        (λ r er. record { waits = h.waits; sends_only = more (line.Show router ∷ shown r.node) (λ q. ap (list_all i) (shows_nothing r.node q)) })
