-- Every message that a router sends can be written, where the message that came has a spelling; and what it holds has one.
use Rattle.std.proofs.Common.{◌≡◌, ℕ, ◌==◌, Bool, true, false, cond, List, [], ◌∷◌, Option, Some, None, map, filter, All, inl, inr, refl, subst}
use Rattle.std.specs.List.{AllByRecursion}
use Rattle.std.proofs.lemmas.List.Elements.{All-from_recursion}
use Rattle.zr_id.specs.declared.link.LinkNo.{LinkNo}
use Rattle.zr_local.specs.Clients.{interests_on}
use Rattle.zr_local.specs.declared.interest.Interest.{Interest as LiveInterest}
use Rattle.zr_msg.specs.declared.decl.Decl.{Decl}
use Rattle.zr_msg.specs.declared.msg.Msg.{Msg}
use Rattle.zr_msg.specs.declared.msg.Msg.TheVariants.{ToldEnd}
use Rattle.zr_msg.specs.declared.event.Event.{Event}
use Rattle.zr_msg.specs.declared.event.Event.TheVariants.{Up, Down, From}
use Rattle.zr_node_spec.specs.Tables.{TableState, leads_to_client}
use Rattle.zr_lists.proofs.Each.{All-append}
use Rattle.zr_lists.proofs.Numbers.{same_number}
use Rattle.zr_node_spec.specs.State.{NodeState, tables}
use Rattle.zr_node_spec.specs.Table.{after, refuses, sends}
use Rattle.zr_node_spec.specs.Event.{on_link}
use Rattle.zr_told_spec.specs.Hub.{Asking, HubState, asking_on, hub_refuses, hub_sends, sends_told, tells_with}
use Rattle.zr_told_spec.specs.Rows.{answered, closing, is_again, map_on, once, others}
use Rattle.zr_told_spec.specs.Told.{ToldMap, declared, declares, entered, fresh, gone, id_at, id_for, kept, retell, undeclared, undeclares}
use Rattle.zr_told_spec.specs.Wanted.{Wanted, wanted}
use Rattle.zr_told_spec.specs.declared.place.Class.{Class}
use Rattle.zr_told_spec.specs.declared.place.Class.TheVariants.{Subscriber, Queryable, Living}
use Rattle.zr_told_spec.specs.declared.place.Place.{Place}
use Rattle.zr_wire.specs.Writing.{IsSpelled}
use Rattle.zr_wire.specs.Writable.{IsWritable}
use Rattle.zr_router_queue.specs.Held.{ComesSpelled, HoldsSpelled, IsReplySpelled}
use Rattle.zr_law_sent.specs.Sent.{Comes, Passes}
use Rattle.zr_law_sent.proofs.Holding.{held_after}
use Rattle.zr_law_sent.proofs.Kept.{IsKept, neither}
use Rattle.zr_law_sent.proofs.Sent.{sends_pass}

abbrev AreWritable : List Msg → Type 0
AreWritable messages = AllByRecursion (λ m. IsWritable m) messages

either : (b : Bool) (xs ys : List Msg) → AreWritable xs → AreWritable ys → AreWritable (cond b xs ys)
either true xs ys h k = h
either false xs ys h k = k

-- what goes on has a spelling since it came with one, and so has what a router makes; a snapshot is light
passes : Passes (λ m. IsSpelled m) (λ role m. IsWritable m)
passes = record {
  state = λ role r. inl tt;
  step = λ role source number added d some. inl some;
  snap = λ role log light. inr light;
  final = λ role number. inl (record { marks = refl; stamp = tt; responder = tt }, refl, refl, refl);
  push_on = λ role named tree content h. inl h;
  request_on = λ role named tree id number target content h. inl h;
  reply_on = λ role id number content h. inl h;
  final_on = λ role id number extras h. inl h;
  step_on = λ role source number added d h. inl h;
  snap_on = λ role source number decls h. inl h;
}

sends_written : (node : NodeState) (event : Event) (to : LinkNo) → IsKept node → HoldsSpelled node.held → refuses node event ≡ None → ComesSpelled event → AreWritable (sends node event to)
sends_written node event to kept spelled taken h = sends_pass (λ m. IsSpelled m) (λ role m. IsWritable m) passes node event to kept spelled taken (comes event h)
  where
    comes : (event : Event) → ComesSpelled event → Comes (λ m. IsSpelled m) event
    comes (Up link peer) h = tt
    comes (Down link) h = tt
    comes (From link msg) h = h

-- what it holds then has a spelling too: a reply came as one
pub spelled_after : (node : NodeState) (event : Event) → HoldsSpelled node.held → ComesSpelled event → HoldsSpelled (after node event).held
spelled_after node event h k = held_after (λ c. IsReplySpelled c) node event h (λ link id content e. subst ComesSpelled e k)

-- ---- what clients are told: each told message has a spelling

declares_written : (id : ℕ) (class : Class) (key : List ℕ) (complete : Bool) (interest : Option ℕ) → IsWritable (declares id class key complete interest)
declares_written id Subscriber key complete interest = inl tt
declares_written id Queryable key complete interest = inl tt
declares_written id Living key complete interest = inl tt

undeclares_written : (id : ℕ) (class : Class) → IsWritable (undeclares id class)
undeclares_written id Subscriber = inl tt
undeclares_written id Queryable = inl tt
undeclares_written id Living = inl tt

undeclared_written : (m : ToldMap) (ps : List Place) → AreWritable (undeclared m ps)
undeclared_written m [] = tt
undeclared_written m (p ∷ ps) = (undeclares_written (id_at m p) p.class, undeclared_written m ps)

declared_written : (interest : Option ℕ) (m : ToldMap) (ws : Wanted) → AreWritable (declared interest m ws)
declared_written interest m [] = tt
declared_written interest m (w ∷ ws) = (declares_written (id_for m w.0) w.0.class w.0.key w.1 interest, declared_written interest (entered m w) ws)

retell_written : (again : Place → Bool) (interest : Option ℕ) (ws : Wanted) (m : ToldMap) → AreWritable (retell again interest ws m)
retell_written again interest ws m =
    All-append (λ x. IsWritable x) (undeclared m (gone ws m)) (declared interest (kept ws m) (fresh again ws (kept ws m)))
    (undeclared_written m (gone ws m)) (declared_written interest (kept ws m) (fresh again ws (kept ws m)))

once_written : (interest : Option ℕ) (ws : Wanted) → AreWritable (map (λ w. declares 0 w.0.class w.0.key w.1 interest) ws)
once_written interest [] = tt
once_written interest (w ∷ ws) = (declares_written 0 w.0.class w.0.key w.1 interest, once_written interest ws)

closing_written : (current future : Bool) (ds : List Decl) (i : LiveInterest) → AreWritable (closing current future ds i)
closing_written false future ds i = tt
closing_written true true ds i = (inl tt, tt)
closing_written true false ds i = All-append (λ x. IsWritable x) (once ds i) (ToldEnd i.id ∷ []) (once_written (Some i.id) (wanted ds (i ∷ []))) (inl tt, tt)

tells_written : (t : TableState) (m : ToldMap) (to : ℕ) (asking : Option Asking) → AreWritable (tells_with t m to asking)
tells_written t m to None = retell_written (λ p. false) None (wanted (others t to) (interests_on t.clients to)) m
tells_written t m to (Some a) =
    let ds : List Decl = others t to in
    let named : Option ℕ = cond a.future (answered a.current a.interest) None in
    All-append (λ x. IsWritable x) (retell (is_again a.future ds a.interest) named (wanted ds (interests_on t.clients to)) m) (closing a.current a.future ds a.interest)
    (retell_written (is_again a.future ds a.interest) named (wanted ds (interests_on t.clients to)) m) (closing_written a.current a.future ds a.interest)

-- ---- the router with its clients

hub_written : (hub : HubState) (event : Event) (to : LinkNo) → IsKept hub.node → HoldsSpelled hub.node.held → hub_refuses hub event ≡ None → ComesSpelled event → AreWritable (hub_sends hub event to)
hub_written hub event to light spelled taken h =
    let t : TableState = tables (after hub.node event) in
    let m : ToldMap = map_on hub.told to.0 in
    All-append (λ x. IsWritable x) (sends hub.node event to) (sends_told t m event to.0)
    (sends_written hub.node event to light spelled (neither (refuses hub.node event) _ taken) h)
    (either (leads_to_client t.links to.0) (tells_with t m to.0 (asking_on event to.0)) [] (tells_written t m to.0 (asking_on event to.0)) tt)

-- what can be written link by link can be written
by_links : (sent : List (LinkNo × Msg)) → ((to : LinkNo) → AllByRecursion (λ m. IsWritable m) (on_link to sent)) → AllByRecursion (λ x. IsWritable x.1) sent
by_links [] h = tt
by_links (x ∷ xs) h = (head (x.0.0 == x.0.0) (same_number x.0.0) (h x.0), by_links xs (λ to. tail (x.0.0 == to.0) to (h to)))
  where
    head : (b : Bool) → b ≡ true → AllByRecursion (λ m. IsWritable m) (map (λ y. y.1) (cond b (x ∷ filter (λ y. y.0.0 == x.0.0) xs) (filter (λ y. y.0.0 == x.0.0) xs))) → IsWritable x.1
    head true e k = k.0
    head false e k = cc

    tail : (b : Bool) (to : LinkNo) → AllByRecursion (λ m. IsWritable m) (map (λ y. y.1) (cond b (x ∷ filter (λ y. y.0.0 == to.0) xs) (filter (λ y. y.0.0 == to.0) xs)))
        → AllByRecursion (λ m. IsWritable m) (on_link to xs)
    tail true to k = k.1
    tail false to k = k

pub sent_written : (hub : HubState) (event : Event) (sent : List (LinkNo × Msg)) → IsKept hub.node → HoldsSpelled hub.node.held → hub_refuses hub event ≡ None → ComesSpelled event →
    ((to : LinkNo) → on_link to sent ≡ hub_sends hub event to) → All (λ x. IsWritable x.1) sent
sent_written hub event sent light spelled taken h e =
    All-from_recursion (λ x. IsWritable x.1) sent (by_links sent (λ to. rw (e to) (hub_written hub event to light spelled taken h)))
