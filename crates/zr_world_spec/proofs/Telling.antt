-- A router that has heard of an event tells its clients of others' declarations, behind all else. What is told are told messages alone
-- (`told_alone`), and routers are told nothing (`told_to_router`). They come to queues, the router keeps what it told, and nothing else of the
-- world changes: a reading that sees neither of the two reads the same (`same_node`, `same_end_told`). So the network is sound then just
-- where it was (`telling_sound`, `sending_sound`).
use Rattle.std.proofs.Common.{◌≡◌, ℕ, Bool, true, false, cond, not, List, [], ◌∷◌, map, Option, Some, None, refl, sym, ap, ◌∙◌, append-nil}
use Rattle.std.specs.Prelude.{is_some}
use Rattle.std.specs.List.{list_all}
use Rattle.std.specs.Map.{keys_of}
use Rattle.std.specs.Option.{option_map, option_map_or}
use Rattle.std.proofs.lemmas.Bool.{and_from}
use Rattle.zr_id.specs.Zid.{is_named}
use Rattle.zr_msg.specs.declared.decl.Decl.{Decl}
use Rattle.zr_msg.specs.declared.event.Event.{Event}
use Rattle.zr_msg.specs.declared.msg.Msg.{Msg}
use Rattle.zr_msg.specs.declared.msg.Msg.TheVariants.{Sub, Unsub, Token, Untoken, Able, Unable, Interest, EndInterest, ToldSub, ToldAble, ToldUnsub, ToldToken, ToldUntoken, ToldUnable, ToldEnd, Push, Request, Response, Final, State, Step, Snap}
use Rattle.zr_msg.specs.declared.peer.LinkPeer.{LinkPeer}
use Rattle.zr_local.specs.Clients.{interests_on}
use Rattle.zr_local.specs.declared.interest.Interest.{Interest as LiveInterest}
use Rattle.zr_node_spec.specs.Tables.{TableState, is_router, link_to, leads_to_client}
use Rattle.zr_node_spec.specs.State.{tables}
use Rattle.zr_node_spec.specs.Table.{after}
use Rattle.zr_told_spec.specs.Hub.{Asking, asking_on, tells_with, sends_told}
use Rattle.zr_told_spec.specs.Rows.{map_on, others, is_again, answered, closing, once}
use Rattle.zr_told_spec.specs.Told.{ToldMap, id_at, id_for, entered, declares, undeclares, declared, undeclared, gone, kept, fresh, retell}
use Rattle.zr_told_spec.specs.Wanted.{Wanted, wanted}
use Rattle.zr_told_spec.specs.declared.place.Class.{Class}
use Rattle.zr_told_spec.specs.declared.place.Class.TheVariants.{Subscriber, Queryable, Living}
use Rattle.zr_told_spec.specs.declared.place.Place.{Place}
use Rattle.zr_world_spec.specs.World.{Tagged, RouterState, EndState, End, Routers, WorldState, router_of, end_of, with_routers, with_ends, with_router, with_queue, queued}
use Rattle.zr_world_spec.specs.Acts.{all_queued, hearing, told_to, having_told, all_told, telling, heard}
use Rattle.zr_world_spec.specs.Sound.{AreUnique, IsSound}
use Rattle.zr_world_spec.proofs.Keyed.{set_twice}
use Rattle.zr_world_spec.proofs.Names.{names, read_kept}
use Rattle.zr_world_spec.proofs.Ends.{with_waiting, keys_waiting, waiting_is, keep_waiting}
use Rattle.zr_world_spec.proofs.Fits.{same_unwaiting, same_told, Alike, alike_sound}
use Rattle.zr_world_spec.proofs.Links.{numbered_link}
use Rattle.zr_lists.proofs.Tests.{all_both}

-- a router that hears and then tells is set twice, and the second counts
pub heard_is : (w : WorldState) (x : List ℕ) (r : RouterState) (event : Event) (tag : ℕ) →
    heard w x r event tag ≡ with_ends (with_routers w (with_router w.routers x (having_told r event))) (all_told (all_queued w.ends x r.node event tag) x r event tag)
heard_is w x r event tag =
    ap (λ (rs : Routers). with_ends (with_routers w rs) (all_told (all_queued w.ends x r.node event tag) x r event tag)) (set_twice (is_named x) w.routers (hearing r event) (having_told r event))

-- ---- what is told

-- a message that tells a client of what others declare
abbrev pub is_told : Msg → Bool
is_told (Sub id key) = false
is_told (Unsub id) = false
is_told (Token id key) = false
is_told (Untoken id) = false
is_told (Able id key complete) = false
is_told (Unable id) = false
is_told (Interest id current future kinds key aggregate) = false
is_told (EndInterest id) = false
is_told (ToldSub id key interest) = true
is_told (ToldToken id key interest) = true
is_told (ToldAble id key complete interest) = true
is_told (ToldUnsub id) = true
is_told (ToldUntoken id) = true
is_told (ToldUnable id) = true
is_told (ToldEnd interest) = true
is_told (Push tree content) = false
is_told (Request tree id target content) = false
is_told (Response id content) = false
is_told (Final id extras) = false
is_told (State links) = false
is_told (Step source number added decl) = false
is_told (Snap source number decls) = false

undeclares_told : (id : ℕ) (class : Class) → is_told (undeclares id class) ≡ true
undeclares_told id Subscriber = refl
undeclares_told id Queryable = refl
undeclares_told id Living = refl

declares_told : (id : ℕ) (class : Class) (key : List ℕ) (complete : Bool) (interest : Option ℕ) → is_told (declares id class key complete interest) ≡ true
declares_told id Subscriber key complete interest = refl
declares_told id Queryable key complete interest = refl
declares_told id Living key complete interest = refl

undeclared_told : (m : ToldMap) (ps : List Place) → list_all is_told (undeclared m ps) ≡ true
undeclared_told m [] = refl
undeclared_told m (p ∷ ps) = and_from (is_told (undeclares (id_at m p) p.class)) (list_all is_told (undeclared m ps)) (undeclares_told (id_at m p) p.class) (undeclared_told m ps)

declared_told : (interest : Option ℕ) (m : ToldMap) (ws : Wanted) → list_all is_told (declared interest m ws) ≡ true
declared_told interest m [] = refl
declared_told interest m (w ∷ ws) = and_from (is_told (declares (id_for m w.0) w.0.class w.0.key w.1 interest)) (list_all is_told (declared interest (entered m w) ws))
    (declares_told (id_for m w.0) w.0.class w.0.key w.1 interest) (declared_told interest (entered m w) ws)

retell_told : (again : Place → Bool) (interest : Option ℕ) (ws : Wanted) (m : ToldMap) → list_all is_told (retell again interest ws m) ≡ true
retell_told again interest ws m = all_both is_told (undeclared m (gone ws m)) (declared interest (kept ws m) (fresh again ws (kept ws m)))
    (undeclared_told m (gone ws m)) (declared_told interest (kept ws m) (fresh again ws (kept ws m)))

once_told : (id : ℕ) (ws : Wanted) → list_all is_told (map (λ w. declares 0 w.0.class w.0.key w.1 (Some id)) ws) ≡ true
once_told id [] = refl
once_told id (w ∷ ws) = and_from (is_told (declares 0 w.0.class w.0.key w.1 (Some id))) (list_all is_told (map (λ w. declares 0 w.0.class w.0.key w.1 (Some id)) ws))
    (declares_told 0 w.0.class w.0.key w.1 (Some id)) (once_told id ws)

closing_told : (current future : Bool) (ds : List Decl) (i : LiveInterest) → list_all is_told (closing current future ds i) ≡ true
closing_told false future ds i = refl
closing_told true true ds i = refl
closing_told true false ds i = all_both is_told (once ds i) (ToldEnd i.id ∷ []) (once_told i.id (wanted ds (i ∷ []))) refl

with_told : (t : TableState) (m : ToldMap) (to : ℕ) (o : Option Asking) → list_all is_told (tells_with t m to o) ≡ true
with_told t m to None = retell_told (λ p. false) None (wanted (others t to) (interests_on t.clients to)) m
with_told t m to (Some a) = all_both is_told (retell again names ws m) (closing a.current a.future (others t to) a.interest)
    (retell_told again names ws m) (closing_told a.current a.future (others t to) a.interest)
  where
    again : Place → Bool
    again p = is_again a.future (others t to) a.interest p

    names : Option ℕ
    names = cond a.future (answered a.current a.interest) None

    ws : Wanted
    ws = wanted (others t to) (interests_on t.clients to)

sends_told_alone : (t : TableState) (m : ToldMap) (event : Event) (to : ℕ) → list_all is_told (sends_told t m event to) ≡ true
sends_told_alone t m event to = by (leads_to_client t.links to)
  where
    by : (b : Bool) → list_all is_told (cond b (tells_with t m to (asking_on event to)) []) ≡ true
    by true = with_told t m to (asking_on event to)
    by false = refl

-- a neighbour is told of others' declarations alone
pub told_alone : (r : RouterState) (event : Event) (name : List ℕ) → list_all is_told (told_to r event name) ≡ true
told_alone r event name = by (link_to (after r.node event).links name)
  where
    by : (o : Option LinkPeer) → list_all is_told (option_map_or (λ l. sends_told (tables (after r.node event)) (map_on r.told l.link.0) event l.link.0) o []) ≡ true
    by None = refl
    by (Some l) = sends_told_alone (tables (after r.node event)) (map_on r.told l.link.0) event l.link.0

-- a router is told nothing
pub told_to_router : (r : RouterState) (event : Event) (name : List ℕ) → AreUnique (after r.node event).links →
    ((l : LinkPeer) → link_to (after r.node event).links name ≡ Some l → is_router l.peer.role ≡ true) → told_to r event name ≡ []
told_to_router r event name unique router = by (link_to (after r.node event).links name) refl
  where
    t : TableState
    t = tables (after r.node event)

    by : (o : Option LinkPeer) → link_to t.links name ≡ o → option_map_or (λ l. sends_told t (map_on r.told l.link.0) event l.link.0) o [] ≡ []
    by None e = refl
    by (Some l) e =
        let no_client : leads_to_client t.links l.link.0 ≡ false =
        ap (λ (o : Option LinkPeer). option_map_or (λ k. not (is_router k.peer.role)) o false) (numbered_link t.links unique name l e) ∙ ap not (router l e) in
        ap (λ b. cond b (tells_with t (map_on r.told l.link.0) l.link.0 (asking_on event l.link.0)) []) no_client

-- ---- the world in which clients were told

module _ (w : WorldState) (x : List ℕ) (r : RouterState) (event : Event) (tag : ℕ) where
  -- the ends are those that were there
  pub same_names_told : keys_of (telling w x r event tag).ends ≡ keys_of w.ends
  same_names_told = keys_waiting w.ends x (told_to r event) tag

  -- but for queues they are as they were: whether they are up, whether the link is unbroken, and what is on the wire
  pub same_end_told : {Y : Type 0} (f : Option EndState → Y) → ((s : EndState) (q : List Tagged) → f (Some (record { up = s.up; unbroken = s.unbroken; queue = q; wire = s.wire; weight = s.weight })) ≡ f (Some s)) →
      (q : End) → f (end_of (telling w x r event tag).ends q) ≡ f (end_of w.ends q)
  same_end_told f blind q = keep_waiting w.ends x (told_to r event) tag f q (λ s. blind s _)

  -- ends of other routers are as they were
  pub other_ends_told : (q : End) → is_named x q.0 ≡ false → end_of (telling w x r event tag).ends q ≡ end_of w.ends q
  other_ends_told q other = waiting_is w.ends x (told_to r event) tag q
      ∙ ap (λ b. cond b (option_map (with_waiting w.ends x (told_to r event) tag q.1) (end_of w.ends q)) (end_of w.ends q)) other

  -- and so is each end at which nothing is told
  pub untold_end : (q : End) → told_to r event q.1 ≡ [] → end_of (telling w x r event tag).ends q ≡ end_of w.ends q
  untold_end q none = waiting_is w.ends x (told_to r event) tag q ∙ by (is_named x q.0) (end_of w.ends q)
    where
      same : (s : EndState) → queued s (told_to r event q.1) tag ≡ s
      same s = ap (λ (ms : List Msg). queued s ms tag) none ∙ ap (λ (ws : List Tagged). with_queue s ws) (append-nil s.queue)

      by : (b : Bool) (o : Option EndState) → cond b (option_map (λ s. queued s (told_to r event q.1) tag) o) o ≡ o
      by true None = refl
      by true (Some s) = ap Some (same s)
      by false None = refl
      by false (Some s) = refl

  -- at the router's own ends told messages stand behind what was queued
  pub own_end_told : (y : List ℕ) → end_of (telling w x r event tag).ends (x, y) ≡ option_map (λ s. queued s (told_to r event y) tag) (end_of w.ends (x, y))
  own_end_told y = waiting_is w.ends x (told_to r event) tag (x, y)
      ∙ ap (λ b. cond b (option_map (λ s. queued s (told_to r event y) tag) (end_of w.ends (x, y))) (end_of w.ends (x, y))) (names.refl x)

  module _ (there : router_of w.routers x ≡ Some (hearing r event)) where
    -- routers are as they were but for what they told: each has its node and its weight
    pub same_node : {Y : Type 0} (f : Option RouterState → Y) → f (Some (having_told r event)) ≡ f (Some (hearing r event)) → (q : List ℕ) →
        f (router_of (telling w x r event tag).routers q) ≡ f (router_of w.routers q)
    same_node f blind q = read_kept f w.routers x q (hearing r event) (having_told r event) there blind

    -- a sound network is sound then, and was where it is
    pub telling_alike : Alike w (telling w x r event tag)
    telling_alike = record { clients = refl; nodes = same_node (option_map (λ z. z.node)) refl; ends = same_told w.ends x r event tag }

    pub telling_sound : IsSound w → IsSound (telling w x r event tag)
    telling_sound h = alike_sound w (telling w x r event tag) telling_alike h

    pub sending_sound : IsSound (telling w x r event tag) → IsSound w
    sending_sound h = alike_sound (telling w x r event tag) w
        (record { clients = refl; nodes = λ q. sym (same_node (option_map (λ z. z.node)) refl q); ends = same_unwaiting w.ends x (told_to r event) tag }) h

    -- in a sound network routers are told nothing
    pub routers_untold : IsSound w → (y : List ℕ) → is_some (router_of w.routers y) ≡ true → told_to r event y ≡ []
    routers_untold h y router = told_to_router r event y (h.unique x (hearing r event) there) (λ l found. h.roles x y (hearing r event) l there found ∙ router)
