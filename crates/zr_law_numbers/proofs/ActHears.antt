-- What acts by which a router hears of an event lead to on all links: it handles a message, a link comes up, a client comes, a link goes down.
use Rattle.std.proofs.Common.{◌≡◌, ℕ, ◌⊎◌, inl, inr, Bool, true, false, cond, List, [], ◌∷◌, ◌++◌, Option, Some, None, is_some, refl, sym, ap, ◌∙◌}
use Rattle.std.specs.Prelude.{◌||◌}
use Rattle.std.specs.Option.{option_map, option_or}
use Rattle.std.proofs.lemmas.Bool.{false≢true, true≢false, or_from, or_right, and_right, false_from_ne_true}
use Rattle.zr_lists.proofs.Options.{not_there}
use Rattle.zr_id.specs.Zid.{is_named}
use Rattle.zr_id.specs.declared.link.LinkNo.{LinkNo}
use Rattle.zr_graph.proofs.Names.{same_is, same_refl}
use Rattle.zr_msg.specs.declared.msg.Msg.{Msg}
use Rattle.zr_msg.specs.declared.event.Event.{Event}
use Rattle.zr_msg.specs.declared.event.Event.TheVariants.{Up, Down, From}
use Rattle.zr_msg.specs.Peer.{PeerState}
use Rattle.zr_msg.specs.declared.peer.Role.TheVariants as role
use Rattle.zr_msg.specs.declared.peer.LinkPeer.{LinkPeer}
use Rattle.zr_node_spec.specs.Tables.{link_to, free_link}
use Rattle.zr_node_spec.specs.Table.{after}
use Rattle.zr_node_spec.specs.Event.{MayCome}
use Rattle.zr_world_spec.specs.World.{Tagged, RouterState, EndState, End, Ends, WorldState, with_ends, router_of, client_of, end_of, is_end, is_up, is_unbroken, is_taken, with_end, put_end, with_wire, lifted, lowered, new_end, new_client}
use Rattle.zr_world_spec.specs.Acts.{peer_of, up_event, hearing, sending}
use Rattle.zr_world_spec.specs.Sound.{AreUnique, IsSound}
use Rattle.zr_world_spec.proofs.Names.{value_new}
use Rattle.zr_world_spec.proofs.Ends.{same_end, read_with_end, keep_with_end, read_put_end, keep_put_end, read_changed, keep_changed}
use Rattle.zr_world_spec.proofs.Fits.{own_end, other_end}
use Rattle.zr_world_spec.proofs.Cases.{free_name}
use Rattle.zr_law_settled.proofs.Told.{w_client, w_up, w_down, w_handle}
use Rattle.zr_law_settled.proofs.Worlds.{router_heard, unbroken_heard, some_heard}
use Rattle.zr_law_settled.proofs.Quiet.{passes_there}
use Rattle.zr_law_settled.proofs.Orderly.{Orderly}
use Rattle.zr_law_settled.proofs.Moving.{unbroken_at}
use Rattle.zr_law_queries.specs.Link.{fresh}
use Rattle.zr_law_numbers.specs.Waiting.{wire_at, queue_at, waits, is_kept_by, back_at, link_of, is_whole}
use Rattle.zr_law_numbers.specs.Deeds.{Deed, handles_msg, EventIsDone}
use Rattle.zr_law_numbers.proofs.Leading.{handled}
use Rattle.zr_law_numbers.proofs.Doing.{Moves, moved}
use Rattle.zr_law_numbers.proofs.Waits.{wire_of, queue_of, router_holds, client_holds, router_awaits, client_awaits, link_same}
use Rattle.zr_law_numbers.proofs.Neighbours.{handles_by, stays_from, stays_up, stays_down, does_at, handles_from}
use Rattle.zr_law_numbers.proofs.HeardLinks.{front, Fits, Fronts, heard_moves}
use Rattle.zr_law_numbers.proofs.Whole.{LinksGo, whole_apart, whole_turned, whole_same, whole_more, router_alone, unlinked_keeps_nothing, nobody_keeps_nothing, idle_link}

-- an end to which there is a link then is there
there_of : (es ends : Ends) (q : End) (b : Bool) → b ≡ true → b ≡ is_up ends q → is_some (end_of ends q) ≡ is_some (end_of es q) → is_some (end_of es q) ≡ true
there_of es ends q b e up same = sym same ∙ passes_there (λ s. s.up) ends q (sym up ∙ e)

-- nothing is handled where a link comes up or goes down
up_handles : (link : LinkNo) (peer : PeerState) (o : Option LinkPeer) → handles_by (Up link peer) o ≡ []
up_handles link peer None = refl
up_handles link peer (Some l) = refl

down_handles : (link : LinkNo) (o : Option LinkPeer) → handles_by (Down link) o ≡ []
down_handles link None = refl
down_handles link (Some l) = refl

module _ (w : WorldState) (sound : IsSound w) (orderly : Orderly w) (a : List ℕ) (r : RouterState) (found : router_of w.routers a ≡ Some r) where
  none : client_of w.clients a ≡ None
  none = router_alone w orderly a r found

  unique : AreUnique r.node.links
  unique = sound.unique a r found

  -- ---- a router handles a message

  module _ (from : List ℕ) (s : EndState) (at : end_of w.ends (a, from) ≡ Some s) (msg : Msg) (tag : ℕ) (xs : List Tagged) (first : s.wire ≡ record { msg = msg; tag = tag } ∷ xs) (k : LinkPeer)
      (linked : link_to r.node.links from ≡ Some k) (done : EventIsDone r.node (From k.link msg)) where
    abbrev wire_taken : Ends
    wire_taken = with_end w.ends (a, from) (with_wire s xs)

    abbrev w_from : WorldState
    w_from = w_handle w a from r s k.link msg tag xs

    abbrev came : Option Tagged
    came = Some (record { msg = msg; tag = tag })

    handle_fronts : IsSound w_from → Fronts w wire_taken a r (From k.link msg)
    handle_fronts sound' = record {
      fronts = λ y. cond (is_named from y) came None;
      queues = λ e. keep_with_end w.ends (a, from) (with_wire s xs) queue_of e s at refl;
      wires = λ x y other. read_with_end w.ends (a, from) (with_wire s xs) wire_of (x, y) (ap is_some at) ∙ ap (λ b. cond b xs (wire_at w.ends (x, y))) (other_end a from x y other);
      own = λ y. own y (is_named from y) refl;
      handles = λ y. handles_from r.node unique from k linked msg y ∙ handled_is (is_named from y);
      there = λ y e. there_of wire_taken w_from.ends (a, y) (is_some (link_to (after r.node (From k.link msg)).links y)) e
          (sound'.links a y (hearing r (From k.link msg)) (router_heard (with_ends w wire_taken) a r found (From k.link msg) tag)) (some_heard (with_ends w wire_taken) a r found (From k.link msg) tag (a, y));
    }
      where
        handled_is : (b : Bool) → cond b (handles_msg msg) [] ≡ handled (cond b came None)
        handled_is true = refl
        handled_is false = refl

        wire_then : (y : List ℕ) → wire_at wire_taken (a, y) ≡ cond (is_named from y) xs (wire_at w.ends (a, y))
        wire_then y = read_with_end w.ends (a, from) (with_wire s xs) wire_of (a, y) (ap is_some at) ∙ ap (λ b. cond b xs (wire_at w.ends (a, y))) (own_end a from y)

        own : (y : List ℕ) (b : Bool) → is_named from y ≡ b → wire_at w.ends (a, y) ≡ front (cond (is_named from y) came None) ++ wire_at wire_taken (a, y)
        own y true e =
            ap (λ z. wire_at w.ends (a, z)) (sym (same_is from y e)) ∙ ap wire_of at ∙ first
            ∙ sym (ap (λ b. front (cond b came None) ++ wire_at wire_taken (a, y)) e ∙ ap (λ z. record { msg = msg; tag = tag } ∷ z) (wire_then y ∙ ap (λ b. cond b xs (wire_at w.ends (a, y))) e))
        own y false e = sym (ap (λ b. front (cond b came None) ++ wire_at wire_taken (a, y)) e ∙ wire_then y ∙ ap (λ b. cond b xs (wire_at w.ends (a, y))) e)

    pub handle_links : (above below : List ℕ → List ℕ → Deed → Type 0) → Fits above below a r.node (From k.link msg) tag → IsSound w_from → LinksGo above below w w_from
    handle_links above below fits sound' x y whole =
        let was : is_whole w x y ≡ true = whole_same w w_from unbroken x y whole in (
          inl was,
          heard_moves w wire_taken a r found none (From k.link msg) tag (handle_fronts sound') above below fits
              (λ z to. does_at r.node (From k.link msg) done tag unique (sound'.unique a (hearing r (From k.link msg)) (router_heard (with_ends w wire_taken) a r found (From k.link msg) tag)) z to)
              x y (whole_apart w sound x y was) (λ e. stays_from r.node k.link msg y) (λ e. stays_from r.node k.link msg x),
        )
      where
        unbroken : (q : End) → is_unbroken w_from.ends q ≡ is_unbroken w.ends q
        unbroken q = unbroken_heard (with_ends w wire_taken) a r found (From k.link msg) tag q ∙ keep_with_end w.ends (a, from) (with_wire s xs) unbroken_at q s at refl

  -- ---- an end comes up

  module _ (link : LinkNo) (peer : PeerState) (may : MayCome r.node (Up link peer)) (done : EventIsDone r.node (Up link peer)) (tag : ℕ) (es : Ends) (queues : (e : End) → queue_at es e ≡ queue_at w.ends e)
      (wires : (e : End) → wire_at es e ≡ wire_at w.ends e) where
    abbrev w_lifted : WorldState
    w_lifted = sending (with_ends w es) a r (Up link peer) tag

    pub up_moves : (above below : List ℕ → List ℕ → Deed → Type 0) → Fits above below a r.node (Up link peer) tag → ((y : List ℕ) → is_some (link_to (after r.node (Up link peer)).links y) ≡ is_up w_lifted.ends (a, y)) → AreUnique (after r.node (Up link peer)).links → (x y : List ℕ) →
        is_named x y ≡ false → Moves (above x y) (below x y) (link_of w x y) (link_of w_lifted x y)
    up_moves above below fits ups unique' x y apart = heard_moves w es a r found none (Up link peer) tag fronts above below fits (λ z to. does_at r.node (Up link peer) done tag unique unique' z to) x y apart
        (λ e. stays_up r.node unique link peer y may.number may.name) (λ e. stays_up r.node unique link peer x may.number may.name)
      where
        fronts : Fronts w es a r (Up link peer)
        fronts = record {
          fronts = λ y. None;
          queues = queues;
          wires = λ x y other. wires (x, y);
          own = λ y. sym (wires (a, y));
          handles = λ y. up_handles link peer (link_to r.node.links y);
          there = λ y e. there_of es w_lifted.ends (a, y) (is_some (link_to (after r.node (Up link peer)).links y)) e (ups y) (some_heard (with_ends w es) a r found (Up link peer) tag (a, y));
        }

  module _ (name : List ℕ) (s : EndState) (at : end_of w.ends (a, name) ≡ Some s) (n : ℕ) (may : MayCome r.node (up_event r (peer_of w name s.weight))) (done : EventIsDone r.node (up_event r (peer_of w name s.weight))) where
    abbrev es_up : Ends
    es_up = with_end w.ends (a, name) (lifted s)

    abbrev w_then : WorldState
    w_then = w_up w n a name r s

    pub up_links : (above below : List ℕ → List ℕ → Deed → Type 0) → Fits above below a r.node (up_event r (peer_of w name s.weight)) n → IsSound w_then → LinksGo above below w w_then
    up_links above below fits sound' x y whole =
        let was : is_whole w x y ≡ true = whole_same w w_then unbroken x y whole in (
          inl was,
          up_moves (record { 0 = free_link r.node.links }) (peer_of w name s.weight) may done n es_up
              (λ e. keep_with_end w.ends (a, name) (lifted s) queue_of e s at refl) (λ e. keep_with_end w.ends (a, name) (lifted s) wire_of e s at refl) above below fits
              (λ y. sound'.links a y (hearing r (up_event r (peer_of w name s.weight))) router) (sound'.unique a (hearing r (up_event r (peer_of w name s.weight))) router) x y (whole_apart w sound x y was),
        )
      where
        unbroken : (q : End) → is_unbroken w_then.ends q ≡ is_unbroken w.ends q
        unbroken q = unbroken_heard (with_ends w es_up) a r found (up_event r (peer_of w name s.weight)) n q ∙ keep_with_end w.ends (a, name) (lifted s) unbroken_at q s at refl

        router : router_of w_then.routers a ≡ Some (hearing r (up_event r (peer_of w name s.weight)))
        router = router_heard (with_ends w es_up) a r found (up_event r (peer_of w name s.weight)) n

  -- ---- a client comes

  module _ (id : List ℕ) (free : is_taken w id ≡ false) (n : ℕ) (may : MayCome r.node (up_event r (record { id = id; role = role.Client; weight = 1 }))) (done : EventIsDone r.node (up_event r (record { id = id; role = role.Client; weight = 1 }))) where
    abbrev event_came : Event
    event_came = up_event r (record { id = id; role = role.Client; weight = 1 })

    abbrev es_came : Ends
    es_came = put_end w.ends (a, id) (lifted (new_end 1))

    abbrev w_met : WorldState
    w_met = sending (with_ends w es_came) a r event_came n

    abbrev w_came : WorldState
    w_came = w_client w n id a r

    no_router : router_of w.routers id ≡ None
    no_router = not_there (router_of w.routers id) (free_name w id free).0

    no_client : client_of w.clients id ≡ None
    no_client = not_there (client_of w.clients id) (free_name w id free).1

    no_end : (x y : List ℕ) → (is_named x id || is_named y id) ≡ true → end_of w.ends (x, y) ≡ None
    no_end x y e = not_there (end_of w.ends (x, y)) (false_from_ne_true (is_some (end_of w.ends (x, y))) (λ some. by some (is_named x id) refl (is_named y id) refl e))
      where
        by : is_some (end_of w.ends (x, y)) ≡ true → (b : Bool) → is_named x id ≡ b → (c : Bool) → is_named y id ≡ c → (b || c) ≡ true → ⊥
        by some true e c f g = false≢true (sym (ap is_some no_router) ∙ ap (λ z. is_some (router_of w.routers z)) (sym (same_is x id e)) ∙ sound.routers x y some)
        by some false e true f g = false≢true (sym free ∙ ap (is_taken w) (sym (same_is y id f)) ∙ sound.neighbours x y some)
        by some false e false f g = false≢true g

    at_id : end_of w.ends (a, id) ≡ None
    at_id = no_end a id (ap (λ b. is_named a id || b) (same_refl id) ∙ or_right (is_named a id) true refl)

    at_home : end_of w.ends (id, a) ≡ None
    at_home = no_end id a (ap (λ b. b || is_named a id) (same_refl id))

    -- a new client keeps nothing
    new_holds : (x y : List ℕ) (m : ℕ) (b : Bool) → is_named y id ≡ b → client_holds x m (cond b (Some (new_client a)) (client_of w.clients y)) ≡ client_holds x m (client_of w.clients y)
    new_holds x y m false e = refl
    new_holds x y m true e = and_right (is_named a x) false refl ∙ sym (ap (client_holds x m) (ap (client_of w.clients) (same_is y id e) ∙ no_client))

    new_awaits : (x y : List ℕ) (m : ℕ) (b : Bool) → is_named x id ≡ b → client_awaits x y m (cond b (Some (new_client a)) (client_of w.clients x)) ≡ client_awaits x y m (client_of w.clients x)
    new_awaits x y m false e = refl
    new_awaits x y m true e = ap (λ b. cond b (Some (Some (record { name = x; number = m }))) None) (and_right (is_named a y) false refl) ∙ sym (ap (client_awaits x y m) (ap (client_of w.clients) (same_is x id e) ∙ no_client))

    new_keeps : (x y : List ℕ) (m : ℕ) → is_kept_by w_came x y m ≡ is_kept_by w_met x y m
    new_keeps x y m = ap (λ z. router_holds x m (router_of w_met.routers y) || z) (ap (client_holds x m) (value_new w.clients id y (new_client a) no_client) ∙ new_holds x y m (is_named y id) refl)

    new_back : (x y : List ℕ) (m : ℕ) → back_at w_came x y m ≡ back_at w_met x y m
    new_back x y m = ap (λ z. option_or (router_awaits y m (router_of w_met.routers x)) z) (ap (client_awaits x y m) (value_new w.clients id x (new_client a) no_client) ∙ new_awaits x y m (is_named x id) refl)

    new_link_is : (link_of w a id ≡ fresh) × (link_of w id a ≡ fresh)
    new_link_is =
        let nobody = nobody_keeps_nothing w id a no_router no_client in
        let unlinked = unlinked_keeps_nothing w a id r found none may.name in (
          idle_link w a id (λ i. wire_of (at_home i) ++ queue_of (at_id i)) (λ i. wire_of (at_id i) ++ queue_of (at_home i)) unlinked nobody,
          idle_link w id a (λ i. wire_of (at_id i) ++ queue_of (at_home i)) (λ i. wire_of (at_home i) ++ queue_of (at_id i)) nobody unlinked,
        )

    pub client_links : (above below : List ℕ → List ℕ → Deed → Type 0) → Fits above below a r.node event_came n → IsSound w_came → LinksGo above below w w_came
    client_links above below fits sound' x y whole = (by (whole_more w w_came (λ q. is_end (a, id) q) unbroken x y whole), moves)
      where
        unbroken : (q : End) → is_unbroken w_came.ends q ≡ cond (is_end (a, id) q) true (is_unbroken w.ends q)
        unbroken q = unbroken_heard (with_ends w es_came) a r found event_came n q ∙ read_put_end w.ends (a, id) (lifted (new_end 1)) unbroken_at q

        router : router_of w_came.routers a ≡ Some (hearing r event_came)
        router = router_heard (with_ends w es_came) a r found event_came n

        apart : is_named x y ≡ false
        apart = whole_apart w_came sound' x y whole

        moves : Moves (above x y) (below x y) (link_of w x y) (link_of w_came x y)
        moves = moved (above x y) (below x y) (link_of w x y) (link_of w_met x y) (link_of w_came x y)
            (up_moves (record { 0 = free_link r.node.links }) (record { id = id; role = role.Client; weight = 1 }) may done n es_came
            (λ e. keep_put_end w.ends (a, id) (lifted (new_end 1)) queue_of e (sym (ap queue_of at_id))) (λ e. keep_put_end w.ends (a, id) (lifted (new_end 1)) wire_of e (sym (ap wire_of at_id))) above below fits
            (λ z. sound'.links a z (hearing r event_came) router) (sound'.unique a (hearing r event_came) router) x y apart)
            (link_same w_met w_came x y refl refl (new_keeps x y) (new_back x y))

        by : (is_whole w x y ≡ true) ⊎ ((is_end (a, id) (x, y) ≡ true) ⊎ (is_end (a, id) (y, x) ≡ true)) → (is_whole w x y ≡ true) ⊎ (link_of w x y ≡ fresh)
        by (inl was) = inl was
        by (inr (inl e)) = inr (ap (λ (q : End). link_of w q.0 q.1) (sym (same_end (a, id) (x, y) e)) ∙ new_link_is.0)
        by (inr (inr e)) = inr (ap (λ (q : End). link_of w q.1 q.0) (sym (same_end (a, id) (y, x) e)) ∙ new_link_is.1)

  -- ---- an end goes down

  module _ (name : List ℕ) (s : EndState) (at : end_of w.ends (a, name) ≡ Some s) (cut : s.unbroken ≡ false) (n : ℕ) (k : LinkPeer) (linked : link_to r.node.links name ≡ Some k)
      (done : EventIsDone r.node (Down k.link)) where
    abbrev w_heard : WorldState
    w_heard = sending w a r (Down k.link) n

    abbrev w_less : WorldState
    w_less = w_down w n a name r k.link

    kept : {Y : Type 0} (f : Option EndState → Y) → ((z : EndState) → f (Some (lowered z)) ≡ f (Some z)) → (q : End) → f (end_of w_less.ends q) ≡ f (end_of w_heard.ends q)
    kept f same q = keep_changed w_heard.ends (a, name) lowered f q same

    unbroken : (q : End) → is_unbroken w_less.ends q ≡ is_unbroken w.ends q
    unbroken q = kept unbroken_at (λ z. refl) q ∙ unbroken_heard w a r found (Down k.link) n q

    -- the link that goes down is broken
    not_whole : is_whole w a name ≡ false
    not_whole = or_from (is_unbroken w.ends (a, name)) (is_unbroken w.ends (name, a)) here (false_from_ne_true (is_unbroken w.ends (name, a)) (λ e.
        let router : is_some (router_of w.routers name) ≡ true = sound.routers name a (passes_there (λ z. z.unbroken) w.ends (name, a) e) in
        false≢true (sym here ∙ orderly.both_ends (a, name) (ap is_some found) router ∙ e)))
      where
        here : is_unbroken w.ends (a, name) ≡ false
        here = ap unbroken_at at ∙ cut

    pub down_links : (above below : List ℕ → List ℕ → Deed → Type 0) → Fits above below a r.node (Down k.link) n → IsSound w_less → LinksGo above below w w_less
    down_links above below fits sound' x y whole = (
      inl was,
      moved (above x y) (below x y) (link_of w x y) (link_of w_heard x y) (link_of w_less x y)
          (heard_moves w w.ends a r found none (Down k.link) n fronts above below fits (λ z to. does_at r.node (Down k.link) done n unique unique' z to) x y (whole_apart w sound x y was)
          (λ e. stays_down r.node unique name k y linked (other y (λ f. upper e f)))
          (λ e. stays_down r.node unique name k x linked (other x (λ f. lower e f))))
          (link_same w_heard w_less x y (waits_are x y upper_end) (waits_are y x lower_end) (λ m. refl) (λ m. refl)),
    )
      where
        was : is_whole w x y ≡ true
        was = whole_same w w_less unbroken x y whole

        router : router_of w_less.routers a ≡ Some (hearing r (Down k.link))
        router = router_heard w a r found (Down k.link) n

        unique' : AreUnique (after r.node (Down k.link)).links
        unique' = sound'.unique a (hearing r (Down k.link)) router

        other : (z : List ℕ) → (is_named name z ≡ true → ⊥) → is_named name z ≡ false
        other z differs = false_from_ne_true (is_named name z) differs

        upper : is_named a x ≡ true → is_named name y ≡ true → ⊥
        upper e f = true≢false (sym was ∙ (λ i. is_whole w (sym (same_is a x e) i) (sym (same_is name y f) i)) ∙ not_whole)

        lower : is_named a y ≡ true → is_named name x ≡ true → ⊥
        lower e f = true≢false (sym was ∙ whole_turned w x y ∙ (λ i. is_whole w (sym (same_is a y e) i) (sym (same_is name x f) i)) ∙ not_whole)

        upper_end : is_end (a, name) (x, y) ≡ false
        upper_end = false_from_ne_true (is_end (a, name) (x, y)) (λ e. true≢false (sym was ∙ ap (λ (q : End). is_whole w q.0 q.1) (sym (same_end (a, name) (x, y) e)) ∙ not_whole))

        lower_end : is_end (a, name) (y, x) ≡ false
        lower_end = false_from_ne_true (is_end (a, name) (y, x)) (λ e. true≢false (sym was ∙ whole_turned w x y ∙ ap (λ (q : End). is_whole w q.0 q.1) (sym (same_end (a, name) (y, x) e)) ∙ not_whole))

        waits_are : (x y : List ℕ) → is_end (a, name) (x, y) ≡ false → waits w_less x y ≡ waits w_heard x y
        waits_are x y e = (λ i. kept wire_of (λ z. refl) (y, x) i ++ queue i)
          where
            queue : queue_at w_less.ends (x, y) ≡ queue_at w_heard.ends (x, y)
            queue = read_changed w_heard.ends (a, name) lowered queue_of (x, y) ∙ ap (λ b. cond b (queue_of (option_map lowered (end_of w_heard.ends (x, y)))) (queue_at w_heard.ends (x, y))) e

        fronts : Fronts w w.ends a r (Down k.link)
        fronts = record {
          fronts = λ z. None;
          queues = λ e. refl;
          wires = λ x z other. refl;
          own = λ z. refl;
          handles = λ z. down_handles k.link (link_to r.node.links z);
          there = λ z e. there_of w.ends w_less.ends (a, z) (is_some (link_to (after r.node (Down k.link)).links z)) e (sound'.links a z (hearing r (Down k.link)) router)
              (kept is_some (λ q. refl) (a, z) ∙ some_heard w a r found (Down k.link) n (a, z));
        }
