-- A world whose clients were told of others' declarations, beside the same world where they weren't (`IsTold`): routers have the same nodes, and ends
-- are the same but for told messages that stand behind what was queued. What a router makes of an event goes by what it sends itself (`w_client`,
-- `w_up`, `w_down`, `w_handle`): what is shown of that, and stays where clients are told, is shown of the acts (`for_client`, `for_up`, `for_down`,
-- `for_handle`).
use Rattle.std.proofs.Common.{◌≡◌, ℕ, Bool, true, false, cond, List, [], ◌∷◌, ◌++◌, map, Option, Some, None, Ok, refl, sym, ap, ◌∙◌, subst, append-nil}
use Rattle.std.specs.Prelude.{◌&&◌, is_some, IfSome, length, nat_le}
use Rattle.std.specs.List.{AllByRecursion, list_all}
use Rattle.std.specs.List.Sorted.{IsStrictlySortedBy}
use Rattle.std.specs.Map.{keys_of}
use Rattle.std.specs.Option.{option_map, option_map_or}
use Rattle.std.specs.Ordering.{nat_cmp}
use Rattle.std.specs.Cmp.Lexicographic.{slice_cmp}
use Rattle.std.specs.BTreeMap.{insert_entry}
use Rattle.std.proofs.lemmas.Bool.{false≢true, and_parts}
use Rattle.std.proofs.lemmas.Map.{keys-set_value}
use Rattle.zr_lists.proofs.Options.{not_there}
use Rattle.zr_id.specs.Zid.{is_named}
use Rattle.zr_id.specs.declared.link.LinkNo.{LinkNo}
use Rattle.zr_graph.proofs.Names.{same_refl}
use Rattle.zr_msg.specs.declared.msg.Msg.{Msg}
use Rattle.zr_msg.specs.declared.msg.Msg.TheVariants.{Sub, Unsub, Token, Untoken, Able, Unable, Interest, EndInterest, ToldSub, ToldAble, ToldUnsub, ToldToken, ToldUntoken, ToldUnable, ToldEnd, Push, Request, Response, Final, State, Step, Snap}
use Rattle.zr_msg.specs.declared.event.Event.{Event}
use Rattle.zr_msg.specs.declared.event.Event.TheVariants.{Down, From}
use Rattle.zr_msg.specs.declared.peer.Role.TheVariants as role
use Rattle.zr_script_spec.specs.declared.report.ReportLine.{ReportLine}
use Rattle.zr_script_spec.specs.declared.report.ReportLine.TheVariants as line
use Rattle.zr_node_spec.specs.Tables.{link_to}
use Rattle.zr_node_spec.specs.State.{NodeState, tables}
use Rattle.zr_node_spec.specs.Table.{after, refuses}
use Rattle.zr_told_spec.specs.Hub.{sends_told}
use Rattle.zr_told_spec.specs.Rows.{map_on}
use Rattle.zr_world_spec.specs.World.{Tagged, RouterState, EndState, End, Ends, WorldState, with_clients, with_ends, with_router, router_of, end_of, is_end, is_up, is_unbroken, with_end, put_end, changed, queued, with_wire, lifted, lowered, new_end, new_client, is_taken, most_clients, end_cmp, wire_at}
use Rattle.zr_world_spec.specs.Acts.{hearing, having_told, told_to, telling, sending, up_event, peer_of, number_to, client_step, up_step, down_step, handle_step, waiting}
use Rattle.zr_world_spec.specs.Moments.{Moment, went}
use Rattle.zr_world_spec.specs.Sound.{IsSound}
use Rattle.zr_world_spec.proofs.Names.{same_name, read_after}
use Rattle.zr_world_spec.proofs.Ends.{waiting_is, changed_is, keys_changed}
use Rattle.zr_world_spec.proofs.Fits.{up_of, alike_sound}
use Rattle.zr_world_spec.proofs.Telling.{is_told, told_alone, same_names_told, same_node}
use Rattle.zr_world_spec.proofs.Cases as cases
use Rattle.zr_law_settled.proofs.Spreading.{Name, Note}
use Rattle.zr_law_settled.proofs.Worlds.{there_in, feeds_of, queue_at, notes, way_of, up_weight_at, up_weight, notes-append}
use Rattle.zr_law_settled.proofs.Moving.{up_at, unbroken_at, both_ways}

-- ---- told messages

-- what is shown of each message that tells a client of what others declare
module _ (P : Msg → Type 0) (sub : (id : ℕ) (key : List ℕ) (interest : Option ℕ) → P (ToldSub id key interest)) (token : (id : ℕ) (key : List ℕ) (interest : Option ℕ) → P (ToldToken id key interest))
    (able : (id : ℕ) (key : List ℕ) (complete : Bool) (interest : Option ℕ) → P (ToldAble id key complete interest))
    (unsub : (id : ℕ) → P (ToldUnsub id)) (untoken : (id : ℕ) → P (ToldUntoken id)) (unable : (id : ℕ) → P (ToldUnable id)) (end : (interest : ℕ) → P (ToldEnd interest)) where
  pub by_told : (msg : Msg) → is_told msg ≡ true → P msg
  by_told (Sub id key) e = absurd (false≢true e)
  by_told (Unsub id) e = absurd (false≢true e)
  by_told (Token id key) e = absurd (false≢true e)
  by_told (Untoken id) e = absurd (false≢true e)
  by_told (Able id key complete) e = absurd (false≢true e)
  by_told (Unable id) e = absurd (false≢true e)
  by_told (Interest id current future kinds key aggregate) e = absurd (false≢true e)
  by_told (EndInterest id) e = absurd (false≢true e)
  by_told (ToldSub id key interest) e = sub id key interest
  by_told (ToldToken id key interest) e = token id key interest
  by_told (ToldAble id key complete interest) e = able id key complete interest
  by_told (ToldUnsub id) e = unsub id
  by_told (ToldUntoken id) e = untoken id
  by_told (ToldUnable id) e = unable id
  by_told (ToldEnd interest) e = end interest
  by_told (Push tree content) e = absurd (false≢true e)
  by_told (Request tree id target content) e = absurd (false≢true e)
  by_told (Response id content) e = absurd (false≢true e)
  by_told (Final id extras) e = absurd (false≢true e)
  by_told (State links) e = absurd (false≢true e)
  by_told (Step source number added decl) e = absurd (false≢true e)
  by_told (Snap source number decls) e = absurd (false≢true e)

abbrev pub AreTold : List Tagged → Type 0
AreTold ms = AllByRecursion (λ t. is_told t.msg ≡ true) ms

-- ---- what stays

-- a router without what its clients were told, and an end without what is queued
abbrev pub untold : RouterState → RouterState
untold r = record { node = r.node; told = []; weight = r.weight }

abbrev pub unqueued : EndState → EndState
unqueued s = record { up = s.up; unbroken = s.unbroken; queue = []; wire = s.wire; weight = s.weight }

abbrev pub unqueued_ends : Ends → Ends
unqueued_ends es = map (λ q. (q.0, unqueued q.1)) es

-- whether the router of an end has a link to the neighbour
abbrev pub is_near : WorldState → End → Bool
is_near w e = option_map_or (λ r. is_some (link_to r.node.links e.1)) (router_of w.routers e.0) false

-- an end is the same but for what is queued behind: told messages, and none where its router has no link to the neighbour
pub record IsMore (near : Bool) (o o' : Option EndState) : Type 0 where
  pub same : option_map unqueued o' ≡ option_map unqueued o
  pub more : List Tagged
  pub queue : queue_at o' ≡ queue_at o ++ more
  pub told : AreTold more
  pub none : near ≡ false → more ≡ []

pub record IsTold (w v : WorldState) : Type 0 where
  pub clients : v.clients ≡ w.clients
  pub names : keys_of v.routers ≡ keys_of w.routers
  pub routers : (x : Name) → option_map untold (router_of v.routers x) ≡ option_map untold (router_of w.routers x)
  pub places : keys_of v.ends ≡ keys_of w.ends
  pub wires : unqueued_ends v.ends ≡ unqueued_ends w.ends
  pub ends : (e : End) → IsMore (is_near w e) (end_of w.ends e) (end_of v.ends e)

module _ (w v : WorldState) (t : IsTold w v) where
  -- ---- readings

  -- of routers, but for what they told
  pub reads : {Y : Type 0} (f : Option RouterState → Y) → ((r : RouterState) → f (Some (untold r)) ≡ f (Some r)) → (x : Name) → f (router_of v.routers x) ≡ f (router_of w.routers x)
  reads f same x = sym (by (router_of v.routers x)) ∙ ap f (t.routers x) ∙ by (router_of w.routers x)
    where
      by : (o : Option RouterState) → f (option_map untold o) ≡ f o
      by None = refl
      by (Some r) = same r

  -- and of ends, but for their queues
  pub end_reads : {Y : Type 0} (f : Option EndState → Y) → ((s : EndState) → f (Some (unqueued s)) ≡ f (Some s)) → (e : End) → f (end_of v.ends e) ≡ f (end_of w.ends e)
  end_reads f same e = sym (by (end_of v.ends e)) ∙ ap f (t.ends e).same ∙ by (end_of w.ends e)
    where
      by : (o : Option EndState) → f (option_map unqueued o) ≡ f o
      by None = refl
      by (Some s) = same s

  pub told_there : (x : Name) → there_in v x ≡ there_in w x
  told_there x = reads is_some (λ r. refl) x

  pub told_some : (e : End) → is_some (end_of v.ends e) ≡ is_some (end_of w.ends e)
  told_some e = end_reads is_some (λ s. refl) e

  pub told_up : (e : End) → is_up v.ends e ≡ is_up w.ends e
  told_up e = end_reads up_at (λ s. refl) e

  pub told_weight : (e : End) → up_weight v.ends e ≡ up_weight w.ends e
  told_weight e = end_reads up_weight_at (λ s. refl) e

  pub told_unbroken : (e : End) → is_unbroken v.ends e ≡ is_unbroken w.ends e
  told_unbroken e = end_reads unbroken_at (λ s. refl) e

  pub told_wire : (e : End) → wire_at (end_of v.ends e) ≡ wire_at (end_of w.ends e)
  told_wire e = end_reads wire_at (λ s. refl) e

  -- records go over the same links
  pub told_feeds : (x y z : Name) → feeds_of v z x y ≡ feeds_of w z x y
  told_feeds x y z = λ i. told_there y i && (told_up (x, y) i && told_unbroken (x, y) i)

  -- each router was there, and had the same node
  pub router_was : (x : Name) (r : RouterState) → router_of v.routers x ≡ Some r → (q : RouterState) × (router_of w.routers x ≡ Some q) × (untold q ≡ untold r)
  router_was x r found = by (router_of w.routers x) refl (sym (t.routers x) ∙ ap (option_map untold) found)
    where
      by : (o : Option RouterState) → router_of w.routers x ≡ o → option_map untold o ≡ Some (untold r) → (q : RouterState) × (router_of w.routers x ≡ Some q) × (untold q ≡ untold r)
      by None e k = absurd (false≢true (ap is_some k))
      by (Some q) e k = let same : untold q ≡ untold r = cc in (q, e, same)

  -- so what holds of each node holds of each then
  pub of_each : (P : Name → NodeState → Type 0) → ((x : Name) (r : RouterState) → router_of w.routers x ≡ Some r → P x r.node) → (x : Name) (r : RouterState) → router_of v.routers x ≡ Some r → P x r.node
  of_each P each x r found = let q = router_was x r found in subst (λ (n : NodeState). P x n) (ap (λ (z : RouterState). z.node) q.2) (each x q.0 q.1)

  -- what is told is on no way between routers
  module _ {V : Type 0} (tells : Msg → List (Note V)) (silent : (msg : Msg) → is_told msg ≡ true → tells msg ≡ []) where
    notes_silent : (ms : List Tagged) → AreTold ms → notes tells ms ≡ []
    notes_silent [] h = refl
    notes_silent (m ∷ ms) h = ap (λ z. z ++ notes tells ms) (silent m.msg h.0) ∙ notes_silent ms h.1

    pub told_way : (x y : Name) → way_of tells v.ends x y ≡ way_of tells w.ends x y
    told_way x y = both_ways (notes tells (wire_at (end_of v.ends (y, x)))) (notes tells (wire_at (end_of w.ends (y, x)))) (notes tells (queue_at (end_of v.ends (x, y)))) (notes tells (queue_at (end_of w.ends (x, y))))
        (ap (notes tells) (told_wire (y, x)))
        (ap (notes tells) (t.ends (x, y)).queue
        ∙ notes-append tells (queue_at (end_of w.ends (x, y))) (t.ends (x, y)).more
        ∙ ap (λ z. notes tells (queue_at (end_of w.ends (x, y))) ++ z) (notes_silent (t.ends (x, y)).more (t.ends (x, y)).told)
        ∙ append-nil (notes tells (queue_at (end_of w.ends (x, y)))))

  -- ---- networks are sound alike

  pub sound_told : IsSound w → IsSound v
  sound_told h = alike_sound w v (record {
    clients = t.clients;
    nodes = λ q. reads (option_map (λ r. r.node)) (λ r. refl) q;
    ends = record { sorted = subst (IsStrictlySortedBy end_cmp) (sym t.places); there_too = told_some; as_up = λ q. end_reads up_of (λ s. refl) q };
  }) h

  pub sound_back : IsSound v → IsSound w
  sound_back h = alike_sound v w (record {
    clients = sym t.clients;
    nodes = λ q. sym (reads (option_map (λ r. r.node)) (λ r. refl) q);
    ends = record { sorted = subst (IsStrictlySortedBy end_cmp) t.places; there_too = λ q. sym (told_some q); as_up = λ q. sym (end_reads up_of (λ s. refl) q) };
  }) h

-- ---- a router tells its clients

nothing_more : (near : Bool) (o : Option EndState) → IsMore near o o
nothing_more near o = record { same = refl; more = []; queue = sym (append-nil (queue_at o)); told = tt; none = λ k. refl }

module _ (tag : ℕ) where
  tagged : List Msg → List Tagged
  tagged msgs = map (λ m. record { msg = m; tag = tag }) msgs

  tagged_told : (msgs : List Msg) → list_all is_told msgs ≡ true → AreTold (map (λ m. record { msg = m; tag = tag }) msgs)
  tagged_told [] h = tt
  tagged_told (m ∷ msgs) h = let parts = and_parts (is_told m) (list_all is_told msgs) h in (parts.0, tagged_told msgs parts.1)

  queued_more : (near : Bool) (o : Option EndState) (msgs : List Msg) → list_all is_told msgs ≡ true → (near ≡ false → msgs ≡ []) → IsMore near o (option_map (λ s. queued s msgs tag) o)
  queued_more near None msgs told none = nothing_more near None
  queued_more near (Some s) msgs told none = record {
    same = refl;
    more = map (λ m. record { msg = m; tag = tag }) msgs;
    queue = refl;
    told = tagged_told msgs told;
    none = λ k. ap (map (λ m. record { msg = m; tag = tag })) (none k);
  }

-- messages that wait change queues alone
wires_waiting : (es : Ends) (x : Name) (msgs : Name → List Msg) (tag : ℕ) → unqueued_ends (waiting es x msgs tag) ≡ unqueued_ends es
wires_waiting [] x msgs tag = refl
wires_waiting (q ∷ es) x msgs tag = λ i. one (is_named x q.0.0) i ∷ wires_waiting es x msgs tag i
  where
    bare : End × EndState → End × EndState
    bare z = (z.0, unqueued z.1)

    one : (b : Bool) → bare (cond b (q.0, queued q.1 (msgs q.0.1) tag) q) ≡ (q.0, unqueued q.1)
    one true = refl
    one false = refl

module _ (w : WorldState) (x : Name) (r : RouterState) (event : Event) (tag : ℕ) (there : router_of w.routers x ≡ Some (hearing r event)) where
  -- to whom it has no link it tells nothing
  far_untold : (e : End) → is_named x e.0 ≡ true → is_near w e ≡ false → told_to r event e.1 ≡ []
  far_untold e k far =
      let is : is_near w e ≡ is_some (link_to (after r.node event).links e.1) =
      ap (λ (q : Name). is_near w (q, e.1)) (sym (same_name x e.0 k)) ∙ ap (λ o. option_map_or (λ (z : RouterState). is_some (link_to z.node.links e.1)) o false) there in
      ap (λ o. option_map_or (λ l. sends_told (tables (after r.node event)) (map_on r.told l.link.0) event l.link.0) o []) (not_there (link_to (after r.node event).links e.1) (sym is ∙ far))

  pub telling_told : IsTold w (telling w x r event tag)
  telling_told = record {
    clients = refl;
    names = keys-set_value (is_named x) w.routers (having_told r event);
    routers = λ q. same_node w x r event tag there (option_map untold) refl q;
    places = same_names_told w x r event tag;
    wires = wires_waiting w.ends x (told_to r event) tag;
    ends = λ e. subst (λ o. IsMore (is_near w e) (end_of w.ends e) o) (sym (waiting_is w.ends x (told_to r event) tag e)) (at e (is_named x e.0) refl);
  }
    where
      at : (e : End) (b : Bool) → is_named x e.0 ≡ b → IsMore (is_near w e) (end_of w.ends e) (cond b (option_map (λ s. queued s (told_to r event e.1) tag) (end_of w.ends e)) (end_of w.ends e))
      at e true k = queued_more tag (is_near w e) (end_of w.ends e) (told_to r event e.1) (told_alone r event e.1) (far_untold e k)
      at e false k = nothing_more (is_near w e) (end_of w.ends e)

wires_lowered : (es : Ends) (e : End) → unqueued_ends (changed es e lowered) ≡ changed (unqueued_ends es) e lowered
wires_lowered [] e = refl
wires_lowered (q ∷ es) e = λ i. one (is_end e q.0) i ∷ wires_lowered es e i
  where
    bare : End × EndState → End × EndState
    bare z = (z.0, unqueued z.1)

    one : (b : Bool) → bare (cond b (q.0, lowered q.1) q) ≡ cond b (q.0, lowered (unqueued q.1)) (q.0, unqueued q.1)
    one true = refl
    one false = refl

-- an end goes down: what was queued is lost, and what was told with it
pub lowered_told : (w v : WorldState) (e : End) → IsTold w v → IsTold (with_ends w (changed w.ends e lowered)) (with_ends v (changed v.ends e lowered))
lowered_told w v e t = record {
  clients = t.clients;
  names = t.names;
  routers = t.routers;
  places = keys_changed v.ends e lowered ∙ t.places ∙ sym (keys_changed w.ends e lowered);
  wires = wires_lowered v.ends e ∙ ap (λ es. changed es e lowered) t.wires ∙ sym (wires_lowered w.ends e);
  ends = λ q. subst (λ o. IsMore (is_near w q) o (end_of (changed v.ends e lowered) q)) (sym (changed_is w.ends e lowered q))
      (subst (λ o. IsMore (is_near w q) (cond (is_end e q) (option_map lowered (end_of w.ends q)) (end_of w.ends q)) o) (sym (changed_is v.ends e lowered q)) (by q (is_end e q)));
}
  where
    down : (o : Option EndState) → option_map unqueued (option_map lowered o) ≡ option_map lowered (option_map unqueued o)
    down None = refl
    down (Some s) = refl

    empty : (o : Option EndState) → queue_at (option_map lowered o) ≡ []
    empty None = refl
    empty (Some s) = refl

    lost : (near : Bool) (o o' : Option EndState) → IsMore near o o' → IsMore near (option_map lowered o) (option_map lowered o')
    lost near o o' m = record {
      same = down o' ∙ ap (option_map lowered) m.same ∙ sym (down o);
      more = [];
      queue = empty o' ∙ sym (append-nil (queue_at (option_map lowered o)) ∙ empty o);
      told = tt;
      none = λ k. refl;
    }

    by : (q : End) (b : Bool) → IsMore (is_near w q) (cond b (option_map lowered (end_of w.ends q)) (end_of w.ends q)) (cond b (option_map lowered (end_of v.ends q)) (end_of v.ends q))
    by q true = lost (is_near w q) (end_of w.ends q) (end_of v.ends q) (t.ends q)
    by q false = t.ends q

-- what holds of a sound network where clients are not told yet holds of it where they are
pub if_sound : (P : WorldState → Type 0) → ((w v : WorldState) → IsTold w v → IsSound w → P w → P v) → (w v : WorldState) (report : List ReportLine) → IsTold w v → (IsSound w → P w) → IsSound v → P v
if_sound P keeps w v report t k sound = let was = sound_back w v t sound in keeps w v t was (k was)

-- ---- the worlds that acts lead to, before clients are told

abbrev pub w_client : WorldState → ℕ → List ℕ → List ℕ → RouterState → WorldState
w_client w n id router r =
    let v : WorldState = sending (with_ends w (put_end w.ends (router, id) (lifted (new_end 1)))) router r (up_event r (record { id = id; role = role.Client; weight = 1 })) n in
    with_clients v (insert_entry (slice_cmp nat_cmp) w.clients id (new_client router))

abbrev pub w_up : WorldState → ℕ → List ℕ → List ℕ → RouterState → EndState → WorldState
w_up w n router name r s = sending (with_ends w (with_end w.ends (router, name) (lifted s))) router r (up_event r (peer_of w name s.weight)) n

abbrev pub w_down : WorldState → ℕ → List ℕ → List ℕ → RouterState → LinkNo → WorldState
w_down w n router name r l = let v : WorldState = sending w router r (Down l) n in with_ends v (changed v.ends (router, name) lowered)

abbrev pub w_handle : WorldState → List ℕ → List ℕ → RouterState → EndState → LinkNo → Msg → ℕ → List Tagged → WorldState
w_handle w router from r s l msg tag xs = sending (with_ends w (with_end w.ends (router, from) (with_wire s xs))) router r (From l msg) tag

abbrev pub on_client : Moment → ℕ → List ℕ → List ℕ → RouterState → Moment
on_client now n id router r = record { world = w_client now.world n id router r; report = now.report ++ [] }

abbrev pub on_up : Moment → ℕ → List ℕ → List ℕ → RouterState → EndState → Moment
on_up now n router name r s = record { world = w_up now.world n router name r s; report = now.report ++ [] }

abbrev pub on_down : Moment → ℕ → List ℕ → List ℕ → RouterState → LinkNo → Moment
on_down now n router name r l = record { world = w_down now.world n router name r l; report = now.report ++ [] }

abbrev pub on_handle : Moment → List ℕ → List ℕ → RouterState → EndState → LinkNo → Msg → ℕ → List Tagged → Moment
on_handle now router from r s l msg tag xs = record { world = w_handle now.world router from r s l msg tag xs; report = now.report ++ line.Handled router from msg tag ∷ [] }

-- ---- and the acts

module _ (now : Moment) (Q : Moment → Type 0) (stays : (w v : WorldState) (report : List ReportLine) → IsTold w v → Q (record { world = w; report = report }) → Q (record { world = v; report = report })) where
  abbrev w : WorldState
  w = now.world

  -- the router has heard of the event
  heard_of : (x : Name) (r : RouterState) (event : Event) → router_of w.routers x ≡ Some r → router_of (with_router w.routers x (hearing r event)) x ≡ Some (hearing r event)
  heard_of x r event found = read_after (λ o. o) w.routers x x r (hearing r event) found ∙ ap (λ b. cond b (Some (hearing r event)) (router_of w.routers x)) (same_refl x)

  pub for_client : (n : ℕ) (id router : List ℕ) →
      ((r : RouterState) → router_of w.routers router ≡ Some r → is_taken w id ≡ false → nat_le most_clients (length w.clients) ≡ false →
      refuses r.node (up_event r (record { id = id; role = role.Client; weight = 1 })) ≡ None → Q (on_client now n id router r)) →
      IfSome (went now (client_step w n id router)) Q
  for_client n id router step = cases.for_client now Q n id router (λ r found free room taken.
      let event : Event = up_event r (record { id = id; role = role.Client; weight = 1 }) in
      stays (w_client w n id router r) _ _ (telling_told (w_client w n id router r) router r event n (heard_of router r event found)) (step r found free room taken))

  pub for_up : (n : ℕ) (router name : List ℕ) →
      ((r : RouterState) → router_of w.routers router ≡ Some r → is_taken w name ≡ true → (s : EndState) → end_of w.ends (router, name) ≡ Some s → s.unbroken ≡ true → s.up ≡ false →
      refuses r.node (up_event r (peer_of w name s.weight)) ≡ None → Q (on_up now n router name r s)) →
      IfSome (went now (up_step w n router name)) Q
  for_up n router name step = cases.for_up now Q n router name (λ r found there s at_end unbroken down taken.
      let event : Event = up_event r (peer_of w name s.weight) in
      stays (w_up w n router name r s) _ _ (telling_told (w_up w n router name r s) router r event n (heard_of router r event found)) (step r found there s at_end unbroken down taken))

  pub for_down : (n : ℕ) (router name : List ℕ) →
      ((r : RouterState) → router_of w.routers router ≡ Some r → is_taken w name ≡ true → (s : EndState) → end_of w.ends (router, name) ≡ Some s → s.up ≡ true → s.unbroken ≡ false →
      (l : LinkNo) → number_to r name ≡ Ok l → refuses r.node (Down l) ≡ None → Q (on_down now n router name r l)) →
      IfSome (went now (down_step w n router name)) Q
  for_down n router name step = cases.for_down now Q n router name (λ r found there s at_end up cut l number taken.
      let v : WorldState = sending w router r (Down l) n in
      stays (w_down w n router name r l) _ _
      (lowered_told v (telling v router r (Down l) n) (router, name) (telling_told v router r (Down l) n (heard_of router r (Down l) found)))
      (step r found there s at_end up cut l number taken))

  pub for_handle : (router from : List ℕ) →
      ((r : RouterState) → router_of w.routers router ≡ Some r → is_taken w from ≡ true → (s : EndState) → end_of w.ends (router, from) ≡ Some s → s.up ≡ true →
      (msg : Msg) (tag : ℕ) (xs : List Tagged) → s.wire ≡ record { msg = msg; tag = tag } ∷ xs → (l : LinkNo) → number_to r from ≡ Ok l → refuses r.node (From l msg) ≡ None →
      Q (on_handle now router from r s l msg tag xs)) →
      IfSome (went now (handle_step w router from)) Q
  for_handle router from step = cases.for_handle now Q router from (λ r found there s at_end up msg tag xs front l number taken.
      let v : WorldState = w_handle w router from r s l msg tag xs in
      stays v _ _ (telling_told v router r (From l msg) tag (heard_of router r (From l msg) found)) (step r found there s at_end up msg tag xs front l number taken))
