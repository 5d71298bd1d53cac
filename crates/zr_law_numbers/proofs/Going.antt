-- What numbers say at every moment (`NumbersGo`): each act that is not refused keeps it (`act_numbers`).
use Rattle.std.proofs.Common.{◌≡◌, ℕ, ◌==◌, ◌⊎◌, inl, inr, Bool, true, false, cond, not, List, [], ◌∷◌, ◌++◌, Option, Some, None, is_some, refl, sym, ap, ◌∙◌, subst}
use Rattle.std.specs.Prelude.{◌||◌, IfSome, unwrap_or}
use Rattle.std.proofs.lemmas.Bool.{false≢true, true≢false, and_parts, and_from, or_left, or_parts, not-true, false_from_ne_true, eqb-true, eq-eqb}
use Rattle.zr_id.specs.Zid.{is_named}
use Rattle.zr_graph.proofs.Names.{same_is}
use Rattle.zr_msg.specs.declared.decl.Kind.{Kind}
use Rattle.zr_msg.specs.declared.decl.Kind.TheVariants as sort
use Rattle.zr_msg.specs.declared.content.Parts.{Parts}
use Rattle.zr_msg.specs.declared.msg.Msg.{Msg}
use Rattle.zr_msg.specs.declared.msg.Msg.TheVariants as m
use Rattle.zr_msg.specs.declared.msg.Target.{Target}
use Rattle.zr_msg.specs.Extras.{no_extras}
use Rattle.zr_msg.specs.declared.event.Event.{Event}
use Rattle.zr_msg.specs.declared.event.Event.TheVariants.{Down, From}
use Rattle.zr_msg.specs.declared.peer.Role.TheVariants as role
use Rattle.zr_msg.specs.declared.peer.LinkPeer.{LinkPeer}
use Rattle.zr_script_spec.specs.declared.command.Act.{Act}
use Rattle.zr_script_spec.specs.Mode.{is_current, is_future}
use Rattle.zr_script_spec.specs.declared.command.Act.TheVariants as c
use Rattle.zr_node_spec.specs.Tables.{link_to}
use Rattle.zr_node_spec.specs.State.{NodeState, new_node}
use Rattle.zr_node_spec.specs.Table.{able_kind, refuses}
use Rattle.zr_node_spec.specs.Event.{MayCome}
use Rattle.zr_node_spec.proofs.AreLinks.{no_links}
use Rattle.zr_lists.proofs.Each.{All-any}
use Rattle.zr_lists.proofs.Options.{not_there}
use Rattle.zr_world_spec.specs.Sound.{IsSound}
use Rattle.zr_world_spec.specs.World.{Tagged, RouterState, ClientState, EndState, WorldState, with_clients, router_of, client_of, end_of, is_taken, is_unbroken, with_router, with_client, with_end, with_queue, sent, changed, new_router, new_client}
use Rattle.zr_world_spec.specs.Acts.{has_number, without_number, weighing, ids_of, with_ids, declaring, undeclaring, asking, ending, receiving, received, hearing, peer_of, up_event, declare_step, undeclare_step, outcome, wanting, unwanting}
use Rattle.zr_world_spec.specs.Moments.{Moment, went}
use Rattle.zr_world_spec.proofs.Names.{value_new, value_after, read_kept}
use Rattle.zr_world_spec.proofs.Clients.{idle_receiving}
use Rattle.zr_world_spec.proofs.Cases.{w_link, w_break, w_sent, w_declare, w_undeclare, w_take, free_name, number_found, for_router, for_link, for_break, for_declare, for_undeclare, for_publish, for_get, for_reply, for_end, for_take, for_mark, for_show, w_weighed, for_interest, for_uninterest}
use Rattle.zr_world_spec.proofs.Sound.{up_may_come, client_may_come, down_may_come, from_may_come}
use Rattle.zr_law_settled.proofs.Told.{IsTold, if_sound, told_unbroken, of_each, w_client, w_up, w_down, w_handle, for_client, for_up, for_down, for_handle}
use Rattle.zr_law_settled.proofs.Moving.{unbroken_at}
use Rattle.zr_law_settled.proofs.Goes.{Goes}
use Rattle.zr_law_queries.specs.Link.{Hop, Free, Shows, fresh}
use Rattle.zr_law_queries.proofs.Hops.{front_ask, fresh_shows}
use Rattle.zr_law_numbers.specs.Rows.{AreOfLinks}
use Rattle.zr_law_numbers.specs.Waiting.{Asked, Said, Place, asks_in, answers_in, waits, link_of, is_whole}
use Rattle.zr_law_numbers.specs.Deeds.{Deed, EventIsDone}
use Rattle.zr_law_numbers.specs.Numbers.{are_apart}
use Rattle.zr_law_numbers.proofs.Leading.{shows_on}
use Rattle.zr_law_numbers.proofs.Waits.{asks_among, router_holds, router_awaits}
use Rattle.zr_law_numbers.proofs.Done.{events_are_done}
use Rattle.zr_law_numbers.proofs.Whole.{LinksGo, links_stay, whole_same}
use Rattle.zr_law_numbers.proofs.ToldLinks.{link_told}
use Rattle.zr_law_numbers.proofs.Doing.{moves_lead}
use Rattle.zr_law_numbers.proofs.HeardLinks.{Fits}
use Rattle.zr_law_numbers.proofs.ActHears.{handle_links, up_links, client_links, down_links}
use Rattle.zr_law_numbers.proofs.ActLinks.{w_router, router_links, link_links, break_links}
use Rattle.zr_law_numbers.proofs.ActTakes.{take_links}
use Rattle.zr_law_numbers.proofs.ActClients.{number_more, SaysDeeds, quiet_deeds, get_deeds, reply_deeds, end_deeds, receives, said_links, taken_links, taken_first, keeps_before}

-- ---- what holds

-- no number stands twice among a client's queries, and none among its requests
pub record IsApart (s : ClientState) : Type 0 where
  pub queries : are_apart s.queries ≡ true
  pub requests : are_apart s.requests ≡ true

pub record NumbersGo (w : WorldState) : Type 0 where
  pub shown : (x y : List ℕ) → is_whole w x y ≡ true → (hops : ℕ → Hop Asked Place Said) × Shows (link_of w x y) hops
  pub nodes : (x : List ℕ) (r : RouterState) → router_of w.routers x ≡ Some r → AreOfLinks r.node
  pub clients : (c : List ℕ) (s : ClientState) → client_of w.clients c ≡ Some s → IsApart s

-- nothing is asked of deeds
abbrev AnyDeed : List ℕ → List ℕ → Deed → Type 0
AnyDeed x y d = Unit {0}

any_fits : (a : List ℕ) (node : NodeState) (event : Event) (tag : ℕ) → Fits AnyDeed AnyDeed a node event tag
any_fits a node event tag y d m = (tt, tt)

-- links that led to what they are show hops
shown_then : (w v : WorldState) → ((x y : List ℕ) → is_whole w x y ≡ true → (hops : ℕ → Hop Asked Place Said) × Shows (link_of w x y) hops) → LinksGo AnyDeed AnyDeed w v →
    (x y : List ℕ) → is_whole v x y ≡ true → (hops : ℕ → Hop Asked Place Said) × Shows (link_of v x y) hops
shown_then w v shown links x y whole = let was = by (links x y whole).0 in shows_on (link_of w x y) (link_of v x y) (moves_lead (AnyDeed x y) (AnyDeed x y) (link_of w x y) (link_of v x y) (links x y whole).1) was.0 was.1
  where
    by : (is_whole w x y ≡ true) ⊎ (link_of w x y ≡ fresh) → (hops : ℕ → Hop Asked Place Said) × Shows (link_of w x y) hops
    by (inl old) = shown x y old
    by (inr new) = ((λ n. Free), subst (λ l. Shows l (λ n. Free)) (sym new) (fresh_shows Asked Place Said))

-- ---- numbers apart

apart_more : (ns : List ℕ) (k : ℕ) → are_apart ns ≡ true → has_number ns k ≡ false → are_apart (ns ++ k ∷ []) ≡ true
apart_more [] k h free = refl
apart_more (n ∷ ns) k h free =
    let parts = and_parts (not (has_number ns n)) (are_apart ns) h in
    let others = or_parts (n == k) (has_number ns k) free in
    let other : (k == n) ≡ false = false_from_ne_true (k == n) (λ e. true≢false (sym (eq-eqb n k (sym (eqb-true k n e))) ∙ others.0)) in
    and_from (not (has_number (ns ++ k ∷ []) n)) (are_apart (ns ++ k ∷ []))
    (ap not (number_more ns k n ∙ ap (λ b. cond b true (has_number ns n)) other) ∙ parts.0) (apart_more ns k parts.1 others.1)

apart_less : (ns : List ℕ) (k : ℕ) → are_apart ns ≡ true → are_apart (without_number ns k) ≡ true
apart_less [] k h = refl
apart_less (n ∷ ns) k h =
    let parts = and_parts (not (has_number ns n)) (are_apart ns) h in
    by (n == k) (not-true (has_number ns n) parts.0) (apart_less ns k parts.1)
  where
    without : (ms : List ℕ) → has_number ms n ≡ false → has_number (without_number ms k) n ≡ false
    without [] e = refl
    without (m ∷ ms) e = let others = or_parts (m == n) (has_number ms n) e in at (m == k) others.0 (without ms others.1)
      where
        at : (b : Bool) → (m == n) ≡ false → has_number (without_number ms k) n ≡ false → has_number (cond (not b) (m ∷ without_number ms k) (without_number ms k)) n ≡ false
        at true e f = f
        at false e f = ap (λ b. b || has_number (without_number ms k) n) e ∙ f

    by : (b : Bool) → has_number ns n ≡ false → are_apart (without_number ns k) ≡ true → are_apart (cond (not b) (n ∷ without_number ns k) (without_number ns k)) ≡ true
    by true e ih = ih
    by false e ih = and_from (not (has_number (without_number ns k) n)) (are_apart (without_number ns k)) (ap not (without ns e)) ih

new_is_apart : (router : List ℕ) → IsApart (new_client router)
new_is_apart router = record { queries = refl; requests = refl }

-- a client is sent a message: a request whose number it keeps none of, or another one
received_apart : (s : ClientState) (msg : Msg) → IsApart s → ((tree : Option (List ℕ)) (id : ℕ) (target : Target) (content : Parts) → msg ≡ m.Request tree id target content → has_number s.requests id ≡ false) →
    IsApart (receiving s msg)
received_apart s (m.Sub id key) h new = h
received_apart s (m.Unsub id) h new = h
received_apart s (m.Token id key) h new = h
received_apart s (m.Untoken id) h new = h
received_apart s (m.Able id key complete) h new = h
received_apart s (m.Unable id) h new = h
received_apart s (m.Interest id current future kinds key aggregate) h new = h
received_apart s (m.EndInterest id) h new = h
received_apart s (m.ToldSub id key interest) h new = h
received_apart s (m.ToldToken id key interest) h new = h
received_apart s (m.ToldAble id key complete interest) h new = h
received_apart s (m.ToldUnsub id) h new = h
received_apart s (m.ToldUntoken id) h new = h
received_apart s (m.ToldUnable id) h new = h
received_apart s (m.ToldEnd interest) h new = h
received_apart s (m.Push tree content) h new = h
received_apart s (m.Request tree id target content) h new = record { queries = h.queries; requests = apart_more s.requests id h.requests (new tree id target content refl) }
received_apart s (m.Response id content) h new = h
received_apart s (m.Final id extras) h new = record { queries = apart_less s.queries id h.queries; requests = h.requests }
received_apart s (m.State links) h new = h
received_apart s (m.Step source number added decl) h new = h
received_apart s (m.Snap source number decls) h new = h

-- ids are none of its numbers
pub ids_apart : (s : ClientState) (kind : Kind) (ids : List ℕ) → ((with_ids s kind ids).router ≡ s.router) × ((with_ids s kind ids).queries ≡ s.queries) × ((with_ids s kind ids).requests ≡ s.requests)
ids_apart s sort.Sub ids = (refl, refl, refl)
ids_apart s sort.Able ids = (refl, refl, refl)
ids_apart s sort.Full ids = (refl, refl, refl)
ids_apart s sort.Token ids = (refl, refl, refl)

same_apart : (s s' : ClientState) → s'.queries ≡ s.queries → s'.requests ≡ s.requests → IsApart s → IsApart s'
same_apart s s' queries requests h = record { queries = ap are_apart queries ∙ h.queries; requests = ap are_apart requests ∙ h.requests }

-- ---- one of them is another

-- what holds of each value that was found, and of the one that is put in for some, holds of each that is found then
each_then : {X : Type 0} (P : X → Type 0) (b : Bool) (new : X) (o : Option X) (x : X) → P new → ((y : X) → o ≡ Some y → P y) → cond b (Some new) o ≡ Some x → P x
each_then P true new o x h each e = let one : new ≡ x = cc in subst P one h
each_then P false new o x h each e = each x e

new_rows : (id : List ℕ) → AreOfLinks (new_node id)
new_rows id = record { numbered = (no_links id).ascending; sound = record { pending = refl; distinct = refl; askers = refl }; askers = tt; branches = tt; gatherings = record { of_rows = refl; differ = refl }; of_clients = tt }

-- clients are told
pub numbers_told : (w v : WorldState) → IsTold w v → NumbersGo w → NumbersGo v
numbers_told w v t h = record {
  shown = λ x y whole. let was = h.shown x y (whole_same w v (told_unbroken w v t) x y whole) in (was.0, subst (λ l. Shows l was.0) (link_told w v t x y) was.1);
  nodes = of_each w v t (λ x n. AreOfLinks n) h.nodes;
  clients = λ c s found. h.clients c s (ap (λ cs. client_of cs c) (sym t.clients) ∙ found);
}

module _ (now : Moment) (g : Goes now.world) (h : NumbersGo now.world) where
  abbrev w : WorldState
  w = now.world

  abbrev IsKept : Moment → Type 0
  IsKept next = Goes next.world → NumbersGo next.world

  abbrev Kept : Moment → Type 0
  Kept next = IsSound next.world → NumbersGo next.world

  and_goes : (o : Option Moment) → IfSome o Kept → IfSome o IsKept
  and_goes None k = tt
  and_goes (Some next) k = λ g'. k g'.sound

  -- ---- a router hears of an event

  module _ (a : List ℕ) (r : RouterState) (er : router_of w.routers a ≡ Some r) where
    done : (event : Event) → MayCome r.node event → refuses r.node event ≡ None → EventIsDone r.node event
    done event may taken = events_are_done r.node event may taken (h.nodes a r er)

    rows_then : (event : Event) → MayCome r.node event → refuses r.node event ≡ None → (x : List ℕ) (q : RouterState) → router_of (with_router w.routers a (hearing r event)) x ≡ Some q → AreOfLinks q.node
    rows_then event may taken x q found = each_then (λ (z : RouterState). AreOfLinks z.node) (is_named a x) (hearing r event) (router_of w.routers x) q
        (done event may taken).keeps (h.nodes x) (sym (value_after w.routers a x (hearing r event) (ap is_some er)) ∙ found)

    handled_at : (from : List ℕ) (s : EndState) → end_of w.ends (a, from) ≡ Some s → (msg : Msg) (tag : ℕ) (xs : List Tagged) → s.wire ≡ record { msg = msg; tag = tag } ∷ xs →
        (k : LinkPeer) → link_to r.node.links from ≡ Some k → MayCome r.node (From k.link msg) → refuses r.node (From k.link msg) ≡ None → IsSound (w_handle w a from r s k.link msg tag xs) →
        NumbersGo (w_handle w a from r s k.link msg tag xs)
    handled_at from s es msg tag xs first k linked may taken sound' = record {
      shown = shown_then w (w_handle w a from r s k.link msg tag xs) h.shown (handle_links w g.sound g.orderly a r er from s es msg tag xs first k linked (done (From k.link msg) may taken) AnyDeed AnyDeed (any_fits a r.node (From k.link msg) tag) sound');
      nodes = rows_then (From k.link msg) may taken;
      clients = h.clients;
    }

    upped : (n : ℕ) (name : List ℕ) (s : EndState) → end_of w.ends (a, name) ≡ Some s → s.up ≡ false → refuses r.node (up_event r (peer_of w name s.weight)) ≡ None → IsSound (w_up w n a name r s) → NumbersGo (w_up w n a name r s)
    upped n name s es down taken sound' = record {
      shown = shown_then w (w_up w n a name r s) h.shown (up_links w g.sound g.orderly a r er name s es n may (done (up_event r (peer_of w name s.weight)) may taken) AnyDeed AnyDeed (any_fits a r.node (up_event r (peer_of w name s.weight)) n) sound');
      nodes = rows_then (up_event r (peer_of w name s.weight)) may taken;
      clients = h.clients;
    }
      where
        may : MayCome r.node (up_event r (peer_of w name s.weight))
        may = up_may_come w g.sound a name r er s es down

    client_came : (n : ℕ) (id : List ℕ) → is_taken w id ≡ false → refuses r.node (up_event r (record { id = id; role = role.Client; weight = 1 })) ≡ None → IsSound (w_client w n id a r) → NumbersGo (w_client w n id a r)
    client_came n id free taken sound' = record {
      shown = shown_then w (w_client w n id a r) h.shown (client_links w g.sound g.orderly a r er id free n may (done (up_event r (record { id = id; role = role.Client; weight = 1 })) may taken) AnyDeed AnyDeed
          (any_fits a r.node (up_event r (record { id = id; role = role.Client; weight = 1 })) n) sound');
      nodes = rows_then (up_event r (record { id = id; role = role.Client; weight = 1 })) may taken;
      clients = λ q s found. each_then IsApart (is_named q id) (new_client a) (client_of w.clients q) s (new_is_apart a) (h.clients q)
          (sym (value_new w.clients id q (new_client a) (not_there (client_of w.clients id) (free_name w id free).1)) ∙ found);
    }
      where
        may : MayCome r.node (up_event r (record { id = id; role = role.Client; weight = 1 }))
        may = client_may_come w g.sound a id r er free

    downed : (n : ℕ) (name : List ℕ) (s : EndState) → end_of w.ends (a, name) ≡ Some s → s.unbroken ≡ false → (k : LinkPeer) → link_to r.node.links name ≡ Some k → MayCome r.node (Down k.link) →
        refuses r.node (Down k.link) ≡ None → IsSound (w_down w n a name r k.link) → NumbersGo (w_down w n a name r k.link)
    downed n name s es cut k linked may taken sound' = record {
      shown = shown_then w (w_down w n a name r k.link) h.shown (down_links w g.sound g.orderly a r er name s es cut n k linked (done (Down k.link) may taken) AnyDeed AnyDeed (any_fits a r.node (Down k.link) n) sound');
      nodes = rows_then (Down k.link) may taken;
      clients = h.clients;
    }

  -- ---- a client says something

  module _ (name : List ℕ) (s : ClientState) (es : client_of w.clients name ≡ Some s) (e : EndState) (ee : end_of w.ends (s.router, name) ≡ Some e) (n : ℕ) (msg : Msg) where
    apart_then : (s' : ClientState) → IsApart s' → (q : List ℕ) (t : ClientState) → client_of (with_client w.clients name s') q ≡ Some t → IsApart t
    apart_then s' is q t found = each_then IsApart (is_named name q) s' (client_of w.clients q) t is (h.clients q) (sym (value_after w.clients name q s' (ap is_some es)) ∙ found)

    -- it may have other queries or requests then
    said : (s' : ClientState) → s'.router ≡ s.router → SaysDeeds name s s' n msg → IsApart s' → NumbersGo (with_clients (w_sent w n name s e msg) (with_client w.clients name s'))
    said s' home deeds is = record {
      shown = shown_then w v h.shown (said_links w g.sound g.orderly g.clients name s es v s' home (λ q. value_after w.clients name q s' (ap is_some es)) (λ x y k. refl) (λ x y k. refl) n msg e ee refl deeds AnyDeed AnyDeed (All-any deeds.own) (All-any deeds.own));
      nodes = h.nodes;
      clients = apart_then s' is;
    }
      where
        v : WorldState
        v = with_clients (w_sent w n name s e msg) (with_client w.clients name s')

    -- or not
    said_alone : SaysDeeds name s s n msg → NumbersGo (w_sent w n name s e msg)
    said_alone deeds = record {
      shown = shown_then w (w_sent w n name s e msg) h.shown
          (said_links w g.sound g.orderly g.clients name s es (w_sent w n name s e msg) s refl (λ q. same q (is_named name q) refl) (λ x y k. refl) (λ x y k. refl) n msg e ee refl deeds AnyDeed AnyDeed (All-any deeds.own) (All-any deeds.own));
      nodes = h.nodes;
      clients = h.clients;
    }
      where
        same : (q : List ℕ) (b : Bool) → is_named name q ≡ b → client_of w.clients q ≡ cond b (Some s) (client_of w.clients q)
        same q false k = refl
        same q true k = ap (client_of w.clients) (sym (same_is name q k)) ∙ es

    -- or what it says weighs on its router
    weighs : (s' : ClientState) → s'.router ≡ s.router → s'.queries ≡ s.queries → s'.requests ≡ s.requests → (key : List ℕ) (r : RouterState) → router_of w.routers s.router ≡ Some r → asks_in n msg ≡ [] → answers_in n msg ≡ [] →
        NumbersGo (w_weighed w n name key msg s e r (with_client w.clients name s'))
    weighs s' home queries requests key r er no_ask no_answer = record {
      shown = shown_then w v h.shown
          (said_links w g.sound g.orderly g.clients name s es v s' home (λ q. value_after w.clients name q s' (ap is_some es))
          (λ x y k. read_kept (router_holds x k) w.routers s.router y r (weighing r key) er refl) (λ x y k. read_kept (router_awaits y k) w.routers s.router x r (weighing r key) er refl)
          n msg e ee refl (quiet_deeds name s s' n msg no_ask no_answer queries requests) AnyDeed AnyDeed tt tt);
      nodes = λ x q found. each_then (λ (z : RouterState). AreOfLinks z.node) (is_named s.router x) (weighing r key) (router_of w.routers x) q (h.nodes s.router r er) (h.nodes x)
          (sym (value_after w.routers s.router x (weighing r key) (ap is_some er)) ∙ found);
      clients = apart_then s' (same_apart s s' queries requests (h.clients name s es));
    }
      where
        v : WorldState
        v = w_weighed w n name key msg s e r (with_client w.clients name s')

    declared : (kind : Kind) (id : ℕ) (key : List ℕ) (r : RouterState) → router_of w.routers s.router ≡ Some r → asks_in n msg ≡ [] → answers_in n msg ≡ [] →
        NumbersGo (w_declare w n name kind id key msg s e r)
    declared kind id key r er no_ask no_answer =
        let ids = ids_apart s kind (ids_of s kind ++ id ∷ []) in
        weighs (declaring s kind id) ids.0 ids.1 ids.2 key r er no_ask no_answer

    undeclared : (kind : Kind) (id : ℕ) → asks_in n msg ≡ [] → answers_in n msg ≡ [] → NumbersGo (w_undeclare w n name kind id msg s e)
    undeclared kind id no_ask no_answer =
        let ids = ids_apart s kind (without_number (ids_of s kind) id) in
        said (undeclaring s kind id) ids.0 (quiet_deeds name s (undeclaring s kind id) n msg no_ask no_answer ids.1 ids.2) (same_apart s (undeclaring s kind id) ids.1 ids.2 (h.clients name s es))

  -- ---- a message is taken

  module _ (a to : List ℕ) (r : RouterState) (er : router_of w.routers a ≡ Some r) (e : EndState) (ee : end_of w.ends (a, to) ≡ Some e) (unbroken : e.unbroken ≡ true) (msg : Msg) (tag : ℕ) (xs : List Tagged)
      (first : e.queue ≡ record { msg = msg; tag = tag } ∷ xs) where
    -- by a router
    taken_on : client_of w.clients to ≡ None → is_some (router_of w.routers to) ≡ true → NumbersGo (w_take w a to e msg tag xs)
    taken_on none there = record {
      shown = shown_then w (w_take w a to e msg tag xs) h.shown
          (links_stay AnyDeed AnyDeed w (w_take w a to e msg tag xs) (take_links w a to none (g.holds.twins a to (ap is_some ee) there) msg tag xs e ee first));
      nodes = h.nodes;
      clients = λ q s found. h.clients q s (sym (ap (λ o. client_of (received w.clients to msg o) q) none) ∙ found);
    }

    -- by a client, of its own router
    taken_by : (s : ClientState) → client_of w.clients to ≡ Some s → s.router ≡ a → NumbersGo (w_take w a to e msg tag xs)
    taken_by s es home = record {
      shown = shown_then w v h.shown (taken_links w g.sound g.orderly g.clients to s es v s' (ids msg) are (λ x y k. refl) (λ x y k. refl) msg tag xs e at first ends_are (receives to s msg) AnyDeed AnyDeed);
      nodes = h.nodes;
      clients = λ q t found. each_then IsApart (is_named to q) s' (client_of w.clients q) t is (h.clients q) (sym (are q) ∙ found);
    }
      where
        v : WorldState
        v = w_take w a to e msg tag xs

        s' : ClientState
        s' = receiving s msg

        ids : (msg : Msg) → (receiving s msg).router ≡ s.router
        ids msg = ap (λ (z : ClientState). z.router) (idle_receiving s msg)

        are : (q : List ℕ) → client_of v.clients q ≡ cond (is_named to q) (Some s') (client_of w.clients q)
        are q = ap (λ o. client_of (received w.clients to msg o) q) es ∙ value_after w.clients to q s' (ap is_some es)

        at : end_of w.ends (s.router, to) ≡ Some e
        at = ap (λ z. end_of w.ends (z, to)) home ∙ ee

        ends_are : v.ends ≡ changed (with_end w.ends (s.router, to) (with_queue e xs)) (to, s.router) (λ z. sent z msg tag)
        ends_are = ap (λ z. changed (with_end w.ends (z, to) (with_queue e xs)) (to, z) (λ q. sent q msg tag)) (sym home)

        is : IsApart s'
        is = received_apart s msg (h.clients to s es) (λ tree id target content same.
            let hops = h.shown s.router to (or_left (is_unbroken w.ends (s.router, to)) (is_unbroken w.ends (to, s.router)) (ap (λ o. unbroken_at o) at ∙ unbroken)) in
            sym (keeps_before w g.sound g.orderly g.clients to s es v s' (ids msg) are (λ x y k. refl) (λ x y k. refl) id)
            ∙ (front_ask (link_of w s.router to) hops.0 hops.1 id (record { line = tag; tree = tree; target = target; content = content }) (asks_among (waits v s.router to))
            (ap asks_among (taken_first w g.sound g.orderly g.clients to s es v s' (ids msg) are (λ x y k. refl) (λ x y k. refl) msg tag xs e at first ends_are (receives to s msg))
            ∙ ap (λ z. asks_in tag z ++ asks_among (waits v s.router to)) same)).untaken)

    taken : NumbersGo (w_take w a to e msg tag xs)
    taken = by (client_of w.clients to) refl
      where
        by : (o : Option ClientState) → client_of w.clients to ≡ o → NumbersGo (w_take w a to e msg tag xs)
        by None none = taken_on none (there none)
          where
            there : client_of w.clients to ≡ None → is_some (router_of w.routers to) ≡ true
            there none = at (is_some (router_of w.routers to)) refl (g.sound.neighbours a to (ap is_some ee))
              where
                at : (b : Bool) → is_some (router_of w.routers to) ≡ b → is_taken w to ≡ true → b ≡ true
                at true k t = refl
                at false k t = absurd (false≢true (sym ((λ i. k i || is_some (none i))) ∙ t))
        by (Some s) es = taken_by s es (g.clients.homes a to s es (ap is_some ee))

  -- ---- all acts

  declares : (n : ℕ) (client : List ℕ) (kind : Kind) (id : ℕ) (key : List ℕ) (msg : Msg) → asks_in n msg ≡ [] → answers_in n msg ≡ [] → IfSome (went now (declare_step now.world n client kind id key msg)) IsKept
  declares n client kind id key msg no_ask no_answer =
      for_declare now IsKept n client kind id key msg (λ s es new e ee unbroken r er room g'. declared client s es e ee n msg kind id key r er no_ask no_answer)

  undeclares : (n : ℕ) (client : List ℕ) (kind : Kind) (id : ℕ) (msg : Msg) → asks_in n msg ≡ [] → answers_in n msg ≡ [] → IfSome (went now (undeclare_step now.world n client kind id msg)) IsKept
  undeclares n client kind id msg no_ask no_answer = for_undeclare now IsKept n client kind id msg (λ s es known e ee unbroken g'. undeclared client s es e ee n msg kind id no_ask no_answer)

  pub act_numbers : (n : ℕ) (act : Act) → IfSome (went now (outcome now.world n act)) IsKept
  unfolding outcome
  act_numbers n (c.Router id) = for_router now IsKept id (λ free room g'. record {
    shown = shown_then w (w_router w id free) h.shown (links_stay AnyDeed AnyDeed w (w_router w id free) (router_links w id free));
    nodes = λ x q found. each_then (λ (z : RouterState). AreOfLinks z.node) (is_named x id) (new_router id) (router_of w.routers x) q (new_rows id) (h.nodes x)
        (sym (value_new w.routers id x (new_router id) (not_there (router_of w.routers id) (free_name w id free).0)) ∙ found);
    clients = h.clients;
  })
  act_numbers n (c.Client id router) = and_goes _ (for_client now Kept (if_sound NumbersGo (λ u v t s. numbers_told u v t)) n id router (λ r er free room taken. client_came router r er n id free taken))
  act_numbers n (c.Link one other weight) = for_link now IsKept one other weight (λ apart r er q eq new room g'. record {
    shown = shown_then w (w_link w one other weight) h.shown (links_stay AnyDeed AnyDeed w (w_link w one other weight) (link_links w g.sound g.orderly one other weight r q er eq new));
    nodes = h.nodes;
    clients = h.clients;
  })
  act_numbers n (c.Up router name) = and_goes _ (for_up now Kept (if_sound NumbersGo (λ u v t s. numbers_told u v t)) n router name (λ r er there s es unbroken down taken. upped router r er n name s es down taken))
  act_numbers n (c.Break router name) = for_break now IsKept router name (λ r er there s es unbroken g'. record {
    shown = shown_then w (w_break w router name) h.shown (links_stay AnyDeed AnyDeed w (w_break w router name) (break_links w router name));
    nodes = h.nodes;
    clients = h.clients;
  })
  act_numbers n (c.Down router name) = and_goes _ (for_down now Kept (if_sound NumbersGo (λ u v t s. numbers_told u v t)) n router name (λ r er there s es up cut l el taken.
      let k = number_found r name l el in
      subst (λ z. MayCome r.node (Down z) → refuses r.node (Down z) ≡ None → IsSound (w_down w n router name r z) → NumbersGo (w_down w n router name r z)) k.2
      (downed router r er n name s es cut k.0 k.1) (down_may_come w g.sound router name r er l el) taken))
  act_numbers n (c.Sub client id key) = declares n client sort.Sub id key (m.Sub id key) refl refl
  act_numbers n (c.Unsub client id) = undeclares n client sort.Sub id (m.Unsub id) refl refl
  act_numbers n (c.Token client id key) = declares n client sort.Token id key (m.Token id key) refl refl
  act_numbers n (c.Untoken client id) = undeclares n client sort.Token id (m.Untoken id) refl refl
  act_numbers n (c.Able client id key complete) = declares n client (able_kind complete) id key (m.Able id key complete) refl refl
  act_numbers n (c.Unable client id) = undeclares n client sort.Able id (m.Unable id) refl refl
  act_numbers n (c.Interest client id mode kinds key aggregate) = for_interest now IsKept n client id mode kinds key aggregate
      (λ s es fresh e ee unbroken passing g'. said_alone client s es e ee n (m.Interest id (is_current mode) (is_future mode) kinds key aggregate)
      (quiet_deeds client s s n (m.Interest id (is_current mode) (is_future mode) kinds key aggregate) refl refl refl refl))
      (λ s es fresh e ee unbroken lasting r er room g'.
      weighs client s es e ee n (m.Interest id (is_current mode) (is_future mode) kinds key aggregate) (wanting s id) refl refl refl (unwrap_or key []) r er refl refl)
  act_numbers n (c.Uninterest client id) = for_uninterest now IsKept n client id (λ s es known e ee unbroken g'.
      said client s es e ee n (m.EndInterest id) (unwanting s id) refl (quiet_deeds client s (unwanting s id) n (m.EndInterest id) refl refl refl refl)
      (record { queries = (h.clients client s es).queries; requests = (h.clients client s es).requests }))
  act_numbers n (c.Publish client content) = for_publish now IsKept n client content (λ s es e ee unbroken g'.
      said_alone client s es e ee n (m.Push None content) (quiet_deeds client s s n (m.Push None content) refl refl refl refl))
  act_numbers n (c.Get client number target content) = for_get now IsKept n client number target content (λ s es free e ee unbroken room g'.
      said client s es e ee n (m.Request None number target content) (asking s number) refl (get_deeds client s n number target content free)
      (record { queries = apart_more s.queries number (h.clients client s es).queries free; requests = (h.clients client s es).requests }))
  act_numbers n (c.Reply client number content) = for_reply now IsKept n client number content (λ s es e ee unbroken kept g'.
      said_alone client s es e ee n (m.Response number content) (reply_deeds client s n number content kept))
  act_numbers n (c.End client number) = for_end now IsKept n client number (λ s es e ee unbroken kept g'.
      said client s es e ee n (m.Final number no_extras) (ending s number) refl (end_deeds client s n number kept)
      (record { queries = (h.clients client s es).queries; requests = apart_less s.requests number (h.clients client s es).requests }))
  act_numbers n (c.Handle router from) = and_goes _ (for_handle now Kept (if_sound NumbersGo (λ u v t s. numbers_told u v t)) router from (λ r er there s es up msg tag xs first l el taken.
      let k = number_found r from l el in
      subst (λ z. MayCome r.node (From z msg) → refuses r.node (From z msg) ≡ None → IsSound (w_handle w router from r s z msg tag xs) → NumbersGo (w_handle w router from r s z msg tag xs)) k.2
      (handled_at router r er from s es msg tag xs first k.0 k.1) (from_may_come w g.sound router from r er l msg el) taken))
  act_numbers n (c.Take router to) = for_take now IsKept router to (λ r er there e ee up unbroken msg tag xs first g'. taken router to r er e ee unbroken msg tag xs first)
  act_numbers n c.Mark = for_mark now IsKept n (λ settled joined g'. h)
  act_numbers n (c.Show router) = for_show now IsKept router (λ r er g'. h)
