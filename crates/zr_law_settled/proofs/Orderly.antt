-- What holds of the ends of every world: nothing is queued at an end that is down, nothing is on the wire of a broken link, what is on a
-- wire between routers was sent from an end that is up, a client's end is up until its link is broken, the two ends of a link
-- between routers are broken at once, and no client has a router's name.
use Rattle.std.proofs.Common.{◌≡◌, ℕ, Bool, true, false, cond, List, [], ◌∷◌, Option, Some, None, ◌⊎◌, inl, inr, refl, sym, ap, ◌∙◌, subst, append-nil}
use Rattle.std.specs.Prelude.{not, is_some, IfSome, unwrap_or, ◌++◌}
use Rattle.std.specs.Option.{option_map, option_map_or}
use Rattle.std.proofs.lemmas.Bool.{false≢true, true≢false}
use Rattle.zr_lists.proofs.Options.{read_cond, not_there}
use Rattle.zr_id.specs.Zid.{is_named}
use Rattle.zr_id.specs.declared.link.LinkNo.{LinkNo}
use Rattle.zr_msg.specs.declared.decl.Kind.{Kind}
use Rattle.zr_msg.specs.declared.decl.Kind.TheVariants as sort
use Rattle.zr_msg.specs.declared.msg.Msg.{Msg}
use Rattle.zr_msg.specs.declared.msg.Msg.TheVariants as m
use Rattle.zr_msg.specs.Extras.{no_extras}
use Rattle.zr_msg.specs.declared.event.Event.{Event}
use Rattle.zr_msg.specs.declared.event.Event.TheVariants.{Down, From}
use Rattle.zr_msg.specs.declared.peer.Role.TheVariants as role
use Rattle.zr_script_spec.specs.declared.command.Act.{Act}
use Rattle.zr_script_spec.specs.Mode.{is_current, is_future}
use Rattle.zr_script_spec.specs.declared.command.Act.TheVariants as c
use Rattle.zr_node_spec.specs.Tables.{link_to}
use Rattle.zr_node_spec.specs.State.{NodeState}
use Rattle.zr_msg.specs.declared.peer.LinkPeer.{LinkPeer}
use Rattle.zr_node_spec.specs.Table.{able_kind, sends, after}
use Rattle.zr_world_spec.specs.World.{Tagged, EndState, End, Ends, ClientState, RouterState, WorldState, is_end, turned, router_of, client_of, end_of, is_taken, with_router, with_end, put_end, changed, queued, sent, broken, lifted, lowered, with_wire, with_queue, new_router, new_client, new_end, is_empty, empty_world, wire_at}
use Rattle.zr_world_spec.specs.Acts.{sends_to, all_queued, hearing, peer_of, up_event, declare_step, undeclare_step, received, outcome}
use Rattle.zr_world_spec.specs.Moments.{Moment, went}
use Rattle.zr_world_spec.specs.Sound.{IsSound}
use Rattle.zr_world_spec.proofs.Names.{same_name, value_new, value_after, read_kept}
use Rattle.zr_world_spec.proofs.Ends.{same_end, read_with_end, keep_with_end, read_put_end, read_changed, keep_changed, read_all_queued, keep_all_queued}
use Rattle.zr_world_spec.proofs.Fits.{up_of}
use Rattle.zr_world_spec.proofs.Clients.{there_same, same_received}
use Rattle.zr_world_spec.proofs.Cases.{free_name, on_router, on_link, on_break, on_take, for_router, for_link, for_break, for_declare, for_undeclare, Says, publish_says, get_says, reply_says, end_says, for_take, for_mark, for_show, Weighs, interest_says, uninterest_says}
use Rattle.zr_law_settled.proofs.Told.{IsTold, is_near, if_sound, end_reads, told_there, on_client, on_up, on_down, on_handle, for_client, for_up, for_down, for_handle}
use Rattle.zr_law_settled.proofs.Worlds.{there_in, queue_at}
use Rattle.zr_law_settled.proofs.Quiet.{turned_is}
use Rattle.zr_law_settled.proofs.Moving.{unbroken_at}

-- ---- readings

abbrev pub has_wire : Option EndState → Bool
has_wire o = not (is_empty (wire_at o))

abbrev pub has_queue : Option EndState → Bool
has_queue o = not (is_empty (queue_at o))

abbrev pub is_client_in : WorldState → List ℕ → Bool
is_client_in w x = is_some (client_of w.clients x)

pub record Orderly (w : WorldState) : Type 0 where
  pub down_ends : (e : End) → up_of (end_of w.ends e) ≡ false → has_queue (end_of w.ends e) ≡ false
  pub broken_links : (e : End) → unbroken_at (end_of w.ends e) ≡ false → has_wire (end_of w.ends e) ≡ false
  pub senders : (e : End) → there_in w e.1 ≡ true → has_wire (end_of w.ends e) ≡ true → up_of (end_of w.ends (turned e)) ≡ true
  pub clients : (e : End) → is_client_in w e.1 ≡ true → unbroken_at (end_of w.ends e) ≡ true → up_of (end_of w.ends e) ≡ true
  pub both_ends : (e : End) → there_in w e.0 ≡ true → there_in w e.1 ≡ true → unbroken_at (end_of w.ends e) ≡ unbroken_at (end_of w.ends (turned e))
  pub apart : (y : List ℕ) → is_client_in w y ≡ true → there_in w y ≡ false

-- an end with a message is there
pub wire_there : (o : Option EndState) → has_wire o ≡ true → is_some o ≡ true
wire_there None k = absurd (false≢true k)
wire_there (Some s) k = refl

-- the ends of a link, turned
pub turned_end : (a b : End) → is_end (turned a) b ≡ is_end a (turned b)
turned_end a b = turned_is a.0 a.1 b.1 b.0

-- a router queues nothing at an end to which it has no link afterwards
queue_after : (es : Ends) (router : List ℕ) (node : NodeState) (event : Event) (tag : ℕ) (e : End) →
    (is_named router e.0 ≡ true → is_some (link_to (after node event).links e.1) ≡ false) →
    has_queue (end_of (all_queued es router node event tag) e) ≡ has_queue (end_of es e)
queue_after es router node event tag e none = read_all_queued es router node event tag has_queue e ∙ by (is_named router e.0) refl
  where
    nothing : (o : Option LinkPeer) → is_some o ≡ false → option_map_or (λ l. sends node event l.link) o [] ≡ []
    nothing None k = refl
    nothing (Some l) k = absurd (true≢false k)

    same : (o : Option EndState) → has_queue (option_map (λ s. queued s [] tag) o) ≡ has_queue o
    same None = refl
    same (Some s) = ap (λ z. not (is_empty z)) (append-nil s.queue)

    by : (b : Bool) → is_named router e.0 ≡ b → cond b (has_queue (option_map (λ s. queued s (sends_to node event e.1) tag) (end_of es e))) (has_queue (end_of es e)) ≡ has_queue (end_of es e)
    by false k = refl
    by true k = ap (λ ms. has_queue (option_map (λ s. queued s ms tag) (end_of es e))) (nothing (link_to (after node event).links e.1) (none k)) ∙ same (end_of es e)

-- ---- clients are told

-- a router has no link over an end that is down
near_down : (w : WorldState) → IsSound w → (e : End) → up_of (end_of w.ends e) ≡ false → is_near w e ≡ false
near_down w sound e down = by (router_of w.routers e.0) refl
  where
    by : (o : Option RouterState) → router_of w.routers e.0 ≡ o → option_map_or (λ r. is_some (link_to r.node.links e.1)) o false ≡ false
    by None k = refl
    by (Some r) k = sound.links e.0 e.1 r k ∙ down

pub orderly_told : (w v : WorldState) → IsTold w v → IsSound w → Orderly w → Orderly v
orderly_told w v t sound h = record {
  down_ends = λ e k. let down = sym (up e) ∙ k in queue e down ∙ h.down_ends e down;
  broken_links = λ e k. wire e ∙ h.broken_links e (sym (unbroken e) ∙ k);
  senders = λ e r k. up (turned e) ∙ h.senders e (sym (told_there w v t e.1) ∙ r) (sym (wire e) ∙ k);
  clients = λ e c k. up e ∙ h.clients e (sym (client e.1) ∙ c) (sym (unbroken e) ∙ k);
  both_ends = λ e r q. unbroken e ∙ h.both_ends e (sym (told_there w v t e.0) ∙ r) (sym (told_there w v t e.1) ∙ q) ∙ sym (unbroken (turned e));
  apart = λ y k. told_there w v t y ∙ h.apart y (sym (client y) ∙ k);
}
  where
    up : (e : End) → up_of (end_of v.ends e) ≡ up_of (end_of w.ends e)
    up e = end_reads w v t up_of (λ s. refl) e

    unbroken : (e : End) → unbroken_at (end_of v.ends e) ≡ unbroken_at (end_of w.ends e)
    unbroken e = end_reads w v t unbroken_at (λ s. refl) e

    wire : (e : End) → has_wire (end_of v.ends e) ≡ has_wire (end_of w.ends e)
    wire e = end_reads w v t has_wire (λ s. refl) e

    client : (y : List ℕ) → is_client_in v y ≡ is_client_in w y
    client y = ap (λ cs. is_some (client_of cs y)) t.clients

    queue : (e : End) → up_of (end_of w.ends e) ≡ false → has_queue (end_of v.ends e) ≡ has_queue (end_of w.ends e)
    queue e down = ap (λ ws. not (is_empty ws)) ((t.ends e).queue ∙ ap (λ z. queue_at (end_of w.ends e) ++ z) ((t.ends e).none (near_down w sound e down)) ∙ append-nil (queue_at (end_of w.ends e)))

module _ (now : Moment) (sound : IsSound now.world) (h : Orderly now.world) where
  abbrev w : WorldState
  w = now.world

  unsent : (router : List ℕ) (r : RouterState) → router_of w.routers router ≡ Some r → (event : Event) (w' : WorldState) → w'.routers ≡ with_router w.routers router (hearing r event) → IsSound w' →
      (e : End) → up_of (end_of w'.ends e) ≡ false → is_named router e.0 ≡ true → is_some (link_to (after r.node event).links e.1) ≡ false
  unsent router r er event w' routers sound' e down same =
      sound'.links e.0 e.1 (hearing r event)
      (ap (λ rs. router_of rs e.0) routers ∙ value_after w.routers router e.0 (hearing r event) (ap is_some er) ∙ ap (λ b. cond b (Some (hearing r event)) (router_of w.routers e.0)) same)
      ∙ down

  -- ---- acts that change no flag

  -- a message more on a wire is one on an unbroken link, from a router's end that is up
  abbrev MaySend : End → Type 0
  MaySend e = (unbroken_at (end_of w.ends e) ≡ true) × (there_in w e.1 ≡ true → up_of (end_of w.ends (turned e)) ≡ true)

  steady : (w' : WorldState) → ((e : End) → up_of (end_of w'.ends e) ≡ up_of (end_of w.ends e)) → ((e : End) → unbroken_at (end_of w'.ends e) ≡ unbroken_at (end_of w.ends e)) →
      ((x : List ℕ) → there_in w' x ≡ there_in w x) → ((x : List ℕ) → is_client_in w' x ≡ is_client_in w x) →
      ((e : End) → up_of (end_of w.ends e) ≡ false → has_queue (end_of w'.ends e) ≡ has_queue (end_of w.ends e)) →
      ((e : End) → has_wire (end_of w'.ends e) ≡ true → (has_wire (end_of w.ends e) ≡ true) ⊎ MaySend e) → Orderly w'
  steady w' up un routers clients queues wires = record {
    down_ends = λ e k. let down = sym (up e) ∙ k in queues e down ∙ h.down_ends e down;
    broken_links = λ e k. silent e (sym (un e) ∙ k) (has_wire (end_of w'.ends e)) refl;
    senders = λ e r k. up (turned e) ∙ sends_on e (sym (routers e.1) ∙ r) (wires e k);
    clients = λ e c k. up e ∙ h.clients e (sym (clients e.1) ∙ c) (sym (un e) ∙ k);
    both_ends = λ e r q. un e ∙ h.both_ends e (sym (routers e.0) ∙ r) (sym (routers e.1) ∙ q) ∙ sym (un (turned e));
    apart = λ y k. routers y ∙ h.apart y (sym (clients y) ∙ k);
  }
    where
      silent : (e : End) → unbroken_at (end_of w.ends e) ≡ false → (b : Bool) → has_wire (end_of w'.ends e) ≡ b → b ≡ false
      silent e cut false k = refl
      silent e cut true k = absurd (by (wires e k))
        where
          by : (has_wire (end_of w.ends e) ≡ true) ⊎ MaySend e → ⊥
          by (inl old) = true≢false (sym old ∙ h.broken_links e cut)
          by (inr new) = true≢false (sym new.0 ∙ cut)

      sends_on : (e : End) → there_in w e.1 ≡ true → (has_wire (end_of w.ends e) ≡ true) ⊎ MaySend e → up_of (end_of w.ends (turned e)) ≡ true
      sends_on e r (inl old) = h.senders e r old
      sends_on e r (inr new) = new.1 r

  -- a client writes
  written : (n : ℕ) (name : List ℕ) (s : ClientState) → client_of w.clients name ≡ Some s → (en : EndState) → end_of w.ends (s.router, name) ≡ Some en → en.unbroken ≡ true → (msg : Msg) →
      (w' : WorldState) → w'.ends ≡ with_end w.ends (s.router, name) (sent en msg n) → ((x : List ℕ) → there_in w' x ≡ there_in w x) → ((x : List ℕ) → is_client_in w' x ≡ is_client_in w x) → Orderly w'
  written n name s es en ee unbroken msg w' ends_are routers clients = steady w'
      (λ e. kept up_of refl e) (λ e. kept unbroken_at refl e) routers clients (λ e down. kept has_queue refl e)
      (λ e k. by e (is_end (s.router, name) e) refl (sym (ap (λ z. has_wire (end_of z e)) ends_are ∙ read_with_end w.ends (s.router, name) (sent en msg n) has_wire e (ap is_some ee)) ∙ k))
    where
      kept : {Y : Type 0} (f : Option EndState → Y) → f (Some (sent en msg n)) ≡ f (Some en) → (e : End) → f (end_of w'.ends e) ≡ f (end_of w.ends e)
      kept f same e = ap (λ z. f (end_of z e)) ends_are ∙ keep_with_end w.ends (s.router, name) (sent en msg n) f e en ee same

      may : MaySend (s.router, name)
      may = (ap unbroken_at ee ∙ unbroken, λ r. absurd (true≢false (sym r ∙ h.apart name (ap is_some es))))

      by : (e : End) (b : Bool) → is_end (s.router, name) e ≡ b → cond b (has_wire (Some (sent en msg n))) (has_wire (end_of w.ends e)) ≡ true → (has_wire (end_of w.ends e) ≡ true) ⊎ MaySend e
      by e true same k = inr (subst MaySend (same_end (s.router, name) e same) may)
      by e false other k = inl k

  abbrev IsKept : Moment → Type 0
  IsKept next = IsSound next.world → Orderly next.world

  -- a router handles a message
  handled : (router from : List ℕ) (r : RouterState) → router_of w.routers router ≡ Some r → (s : EndState) → end_of w.ends (router, from) ≡ Some s →
      (msg : Msg) (tag : ℕ) (xs : List Tagged) → s.wire ≡ record { msg = msg; tag = tag } ∷ xs → (l : LinkNo) → IsKept (on_handle now router from r s l msg tag xs)
  handled router from r er s es msg tag xs front l sound' = steady w' (λ e. kept up_of (λ z ms. refl) refl e) (λ e. kept unbroken_at (λ z ms. refl) refl e)
      (λ x. read_kept is_some w.routers router x r (hearing r (From l msg)) er refl) (λ x. refl)
      (λ e down. queue_after half router r.node (From l msg) tag e (unsent router r er (From l msg) w' refl sound' e (kept up_of (λ z ms. refl) refl e ∙ down))
      ∙ keep_with_end w.ends (router, from) (with_wire s xs) has_queue e s es refl)
      (λ e k. inl (by e (is_end (router, from) e) refl
      (sym (keep_all_queued half router r.node (From l msg) tag has_wire e (λ z. refl) ∙ read_with_end w.ends (router, from) (with_wire s xs) has_wire e (ap is_some es)) ∙ k)))
    where
      w' : WorldState
      w' = (on_handle now router from r s l msg tag xs).world

      half : Ends
      half = with_end w.ends (router, from) (with_wire s xs)

      kept : {Y : Type 0} (f : Option EndState → Y) → ((z : EndState) (ms : List Msg) → f (Some (queued z ms tag)) ≡ f (Some z)) → f (Some (with_wire s xs)) ≡ f (Some s) → (e : End) →
          f (end_of w'.ends e) ≡ f (end_of w.ends e)
      kept f queues same e = keep_all_queued half router r.node (From l msg) tag f e (λ z. queues z (sends_to r.node (From l msg) e.1)) ∙ keep_with_end w.ends (router, from) (with_wire s xs) f e s es same

      by : (e : End) (b : Bool) → is_end (router, from) e ≡ b → cond b (has_wire (Some (with_wire s xs))) (has_wire (end_of w.ends e)) ≡ true → has_wire (end_of w.ends e) ≡ true
      by e true same k = ap (λ z. has_wire (end_of w.ends z)) (sym (same_end (router, from) e same)) ∙ ap has_wire es ∙ ap (λ z. not (is_empty z)) front
      by e false other k = k

  -- a message is taken
  took : (router to : List ℕ) (r : RouterState) → router_of w.routers router ≡ Some r → (s : EndState) → end_of w.ends (router, to) ≡ Some s → s.up ≡ true → s.unbroken ≡ true →
      (msg : Msg) (tag : ℕ) (xs : List Tagged) → Orderly (on_take now router to s msg tag xs).world
  took router to r er s es up unbroken msg tag xs = steady w' (λ e. kept up_of (λ z. refl) refl e) (λ e. kept unbroken_at (λ z. refl) refl e) (λ x. refl)
      (there_same w.clients (received w.clients to msg (client_of w.clients to)) (same_received w.clients to msg))
      (λ e down. keep_changed half (to, router) (λ z. sent z msg tag) has_queue e (λ z. refl) ∙ read_with_end w.ends (router, to) (with_queue s xs) has_queue e (ap is_some es)
      ∙ queues e down (is_end (router, to) e) refl)
      (λ e k. by e (is_end (to, router) e) refl (sym (read_changed half (to, router) (λ z. sent z msg tag) has_wire e) ∙ k))
    where
      w' : WorldState
      w' = (on_take now router to s msg tag xs).world

      half : Ends
      half = with_end w.ends (router, to) (with_queue s xs)

      kept : {Y : Type 0} (f : Option EndState → Y) → ((z : EndState) → f (Some (sent z msg tag)) ≡ f (Some z)) → f (Some (with_queue s xs)) ≡ f (Some s) → (e : End) →
          f (end_of w'.ends e) ≡ f (end_of w.ends e)
      kept f sends_ same e = keep_changed half (to, router) (λ z. sent z msg tag) f e sends_ ∙ keep_with_end w.ends (router, to) (with_queue s xs) f e s es same

      queues : (e : End) → up_of (end_of w.ends e) ≡ false → (b : Bool) → is_end (router, to) e ≡ b → cond b (has_queue (Some (with_queue s xs))) (has_queue (end_of w.ends e)) ≡ has_queue (end_of w.ends e)
      queues e down false k = refl
      queues e down true k = absurd (true≢false (sym up ∙ sym (ap up_of es) ∙ ap (λ z. up_of (end_of w.ends z)) (same_end (router, to) e k) ∙ down))

      half_wire : (e : End) → has_wire (end_of half e) ≡ has_wire (end_of w.ends e)
      half_wire e = keep_with_end w.ends (router, to) (with_queue s xs) has_wire e s es refl

      -- where the end at the other router is there
      may : is_some (end_of w.ends (to, router)) ≡ true → MaySend (to, router)
      may its = (h.both_ends (to, router) (sound.routers to router its) (ap is_some er) ∙ ap unbroken_at es ∙ unbroken, λ k. ap up_of es ∙ up)

      there_is : (o : Option EndState) → has_wire (option_map (λ z. sent z msg tag) o) ≡ true → is_some o ≡ true
      there_is None k = absurd (false≢true k)
      there_is (Some z) k = refl

      by : (e : End) (b : Bool) → is_end (to, router) e ≡ b → cond b (has_wire (option_map (λ z. sent z msg tag) (end_of half e))) (has_wire (end_of half e)) ≡ true →
          (has_wire (end_of w.ends e) ≡ true) ⊎ MaySend e
      by e false k g = inl (sym (half_wire e) ∙ g)
      by e true k g = inr (subst MaySend (same_end (to, router) e k) (may (ap (λ z. is_some (end_of w.ends z)) (same_end (to, router) e k)
          ∙ sym (keep_with_end w.ends (router, to) (with_queue s xs) is_some e s es refl) ∙ there_is (end_of half e) g)))

  -- ---- names that come

  -- no end is there of a name that is free
  no_end_to : (id : List ℕ) → is_taken w id ≡ false → (e : End) → is_named e.1 id ≡ true → end_of w.ends e ≡ None
  no_end_to id free e same = by (end_of w.ends e) refl
    where
      by : (o : Option EndState) → end_of w.ends e ≡ o → o ≡ None
      by None k = refl
      by (Some s) k = absurd (true≢false (sym (sound.neighbours e.0 e.1 (ap is_some k)) ∙ ap (is_taken w) (same_name e.1 id same) ∙ free))

  no_end_of : (id : List ℕ) → is_taken w id ≡ false → (e : End) → is_named e.0 id ≡ true → end_of w.ends e ≡ None
  no_end_of id free e same = by (end_of w.ends e) refl
    where
      by : (o : Option EndState) → end_of w.ends e ≡ o → o ≡ None
      by None k = refl
      by (Some s) k = absurd (true≢false (sym (sound.routers e.0 e.1 (ap is_some k)) ∙ ap (there_in w) (same_name e.0 id same) ∙ (free_name w id free).0))

  router_came : (id : List ℕ) → is_taken w id ≡ false → Orderly (on_router now id).world
  router_came id free = record {
    down_ends = h.down_ends;
    broken_links = h.broken_links;
    senders = λ e r k. sends_on e k (is_named e.1 id) refl (sym (routers_are e.1) ∙ r);
    clients = h.clients;
    both_ends = λ e r q. both e (is_named e.0 id) refl (sym (routers_are e.0) ∙ r) (is_named e.1 id) refl (sym (routers_are e.1) ∙ q);
    apart = λ y k. routers_are y ∙ at y k (is_named y id) refl;
  }
    where
      routers_are : (x : List ℕ) → there_in (on_router now id).world x ≡ cond (is_named x id) true (there_in w x)
      routers_are x = ap is_some (value_new w.routers id x (new_router id) (not_there (router_of w.routers id) (free_name w id free).0))
          ∙ read_cond is_some (is_named x id) (Some (new_router id)) (router_of w.routers x)

      sends_on : (e : End) → has_wire (end_of w.ends e) ≡ true → (b : Bool) → is_named e.1 id ≡ b → cond b true (there_in w e.1) ≡ true → up_of (end_of w.ends (turned e)) ≡ true
      sends_on e k true same r = absurd (false≢true (sym (ap has_wire (no_end_to id free e same)) ∙ k))
      sends_on e k false other r = h.senders e r k

      both : (e : End) (b : Bool) → is_named e.0 id ≡ b → cond b true (there_in w e.0) ≡ true → (b' : Bool) → is_named e.1 id ≡ b' → cond b' true (there_in w e.1) ≡ true →
          unbroken_at (end_of w.ends e) ≡ unbroken_at (end_of w.ends (turned e))
      both e true same r b' k q = ap unbroken_at (no_end_of id free e same) ∙ sym (ap unbroken_at (no_end_to id free (turned e) same))
      both e false other r true k q = ap unbroken_at (no_end_to id free e k) ∙ sym (ap unbroken_at (no_end_of id free (turned e) k))
      both e false other r false k q = h.both_ends e r q

      at : (y : List ℕ) → is_client_in w y ≡ true → (b : Bool) → is_named y id ≡ b → cond b true (there_in w y) ≡ false
      at y k true same = absurd (true≢false (sym k ∙ ap (is_client_in w) (same_name y id same) ∙ (free_name w id free).1))
      at y k false other = h.apart y k

  client_came : (n : ℕ) (id router : List ℕ) (r : RouterState) → router_of w.routers router ≡ Some r → is_taken w id ≡ false → IsKept (on_client now n id router r)
  client_came n id router r er free sound' = record {
    down_ends = λ e k. queue_is e k ∙ empty e (is_end (router, id) e) (sym (up_is e) ∙ k);
    broken_links = λ e k. wire_is e ∙ silent e (is_end (router, id) e) (sym (unbroken_is e) ∙ k);
    senders = λ e q k. up_is (turned e) ∙ still (is_end (router, id) (turned e)) (up_of (end_of w.ends (turned e))) (sends_on e (sym (routers_are e.1) ∙ q) (is_end (router, id) e) (sym (wire_is e) ∙ k));
    clients = λ e k u. up_is e ∙ its e (is_end (router, id) e) (sym (unbroken_is e) ∙ u) (is_named e.1 id) refl (sym (clients_are e.1) ∙ k);
    both_ends = λ e a b.
        unbroken_is e ∙ ap (λ z. cond z true (unbroken_at (end_of w.ends e))) (not_its e (sym (routers_are e.1) ∙ b))
        ∙ h.both_ends e (sym (routers_are e.0) ∙ a) (sym (routers_are e.1) ∙ b)
        ∙ sym (unbroken_is (turned e) ∙ ap (λ z. cond z true (unbroken_at (end_of w.ends (turned e)))) (not_its (turned e) (sym (routers_are e.0) ∙ a)));
    apart = λ y k. routers_are y ∙ at y (is_named y id) refl (sym (clients_are y) ∙ k);
  }
    where
      w' : WorldState
      w' = (on_client now n id router r).world

      event : Event
      event = up_event r (record { id = id; role = role.Client; weight = 1 })

      half : Ends
      half = put_end w.ends (router, id) (lifted (new_end 1))

      reads : {Y : Type 0} (f : Option EndState → Y) → ((z : EndState) (ms : List Msg) → f (Some (queued z ms n)) ≡ f (Some z)) → (e : End) →
          f (end_of w'.ends e) ≡ cond (is_end (router, id) e) (f (Some (lifted (new_end 1)))) (f (end_of w.ends e))
      reads f same e = keep_all_queued half router r.node event n f e (λ z. same z (sends_to r.node event e.1)) ∙ read_put_end w.ends (router, id) (lifted (new_end 1)) f e

      up_is : (e : End) → up_of (end_of w'.ends e) ≡ cond (is_end (router, id) e) true (up_of (end_of w.ends e))
      up_is e = reads up_of (λ z ms. refl) e

      unbroken_is : (e : End) → unbroken_at (end_of w'.ends e) ≡ cond (is_end (router, id) e) true (unbroken_at (end_of w.ends e))
      unbroken_is e = reads unbroken_at (λ z ms. refl) e

      wire_is : (e : End) → has_wire (end_of w'.ends e) ≡ cond (is_end (router, id) e) false (has_wire (end_of w.ends e))
      wire_is e = reads has_wire (λ z ms. refl) e

      queue_is : (e : End) → up_of (end_of w'.ends e) ≡ false → has_queue (end_of w'.ends e) ≡ cond (is_end (router, id) e) false (has_queue (end_of w.ends e))
      queue_is e down = queue_after half router r.node event n e (unsent router r er event w' refl sound' e down) ∙ read_put_end w.ends (router, id) (lifted (new_end 1)) has_queue e

      routers_are : (x : List ℕ) → there_in w' x ≡ there_in w x
      routers_are x = read_kept is_some w.routers router x r (hearing r event) er refl

      clients_are : (x : List ℕ) → is_client_in w' x ≡ cond (is_named x id) true (is_client_in w x)
      clients_are x = ap is_some (value_new w.clients id x (new_client router) (not_there (client_of w.clients id) (free_name w id free).1))
          ∙ read_cond is_some (is_named x id) (Some (new_client router)) (client_of w.clients x)

      still : (b v : Bool) → v ≡ true → cond b true v ≡ true
      still true v k = refl
      still false v k = k

      empty : (e : End) (b : Bool) → cond b true (up_of (end_of w.ends e)) ≡ false → cond b false (has_queue (end_of w.ends e)) ≡ false
      empty e true k = refl
      empty e false k = h.down_ends e k

      silent : (e : End) (b : Bool) → cond b true (unbroken_at (end_of w.ends e)) ≡ false → cond b false (has_wire (end_of w.ends e)) ≡ false
      silent e true k = refl
      silent e false k = h.broken_links e k

      sends_on : (e : End) → there_in w e.1 ≡ true → (b : Bool) → cond b false (has_wire (end_of w.ends e)) ≡ true → up_of (end_of w.ends (turned e)) ≡ true
      sends_on e q true k = absurd (false≢true k)
      sends_on e q false k = h.senders e q k

      its : (e : End) (b : Bool) → cond b true (unbroken_at (end_of w.ends e)) ≡ true → (b' : Bool) → is_named e.1 id ≡ b' → cond b' true (is_client_in w e.1) ≡ true →
          cond b true (up_of (end_of w.ends e)) ≡ true
      its e true u b' k q = refl
      its e false u true k q = absurd (false≢true (sym (ap unbroken_at (no_end_to id free e k)) ∙ u))
      its e false u false k q = h.clients e q u

      not_its : (e : End) → there_in w e.1 ≡ true → is_end (router, id) e ≡ false
      not_its e q = by (is_end (router, id) e) refl
        where
          by : (b : Bool) → is_end (router, id) e ≡ b → b ≡ false
          by false k = refl
          by true k = absurd (true≢false (sym q ∙ ap (λ z. there_in w z.1) (sym (same_end (router, id) e k)) ∙ (free_name w id free).0))

      at : (y : List ℕ) (b : Bool) → is_named y id ≡ b → cond b true (is_client_in w y) ≡ true → there_in w y ≡ false
      at y true same k = ap (there_in w) (same_name y id same) ∙ (free_name w id free).0
      at y false other k = h.apart y k

  -- ---- links that come and go

  linked : (one other : List ℕ) (weight : ℕ) (r q : RouterState) → router_of w.routers one ≡ Some r → router_of w.routers other ≡ Some q → Orderly (on_link now one other weight).world
  linked one other weight r q er eq = record {
    down_ends = λ e k. reads has_queue e ∙ empty e (is_end (other, one) e) (is_end (one, other) e) (sym (reads up_of e) ∙ k);
    broken_links = λ e k. reads has_wire e ∙ silent e (is_end (other, one) e) (is_end (one, other) e) (sym (reads unbroken_at e) ∙ k);
    senders = λ e k t. reads up_of (turned e)
        ∙ ap (λ b. cond b false (cond (is_end (one, other) (turned e)) false (up_of (end_of w.ends (turned e))))) (sym (turned_end (other, one) e))
        ∙ ap (λ b. cond (is_end (one, other) e) false (cond b false (up_of (end_of w.ends (turned e))))) (sym (turned_end (one, other) e))
        ∙ sends_on e k (is_end (other, one) e) (is_end (one, other) e) (sym (reads has_wire e) ∙ t);
    clients = λ e k u. reads up_of e ∙ its e k (is_end (other, one) e) refl (is_end (one, other) e) refl (sym (reads unbroken_at e) ∙ u);
    both_ends = λ e a b. reads unbroken_at e
        ∙ swap (is_end (other, one) e) (is_end (one, other) e) (unbroken_at (end_of w.ends e)) (unbroken_at (end_of w.ends (turned e))) (h.both_ends e a b)
        ∙ ap (λ z. cond z true (cond (is_end (other, one) e) true (unbroken_at (end_of w.ends (turned e))))) (turned_end (other, one) e)
        ∙ ap (λ z. cond (is_end (other, one) (turned e)) true (cond z true (unbroken_at (end_of w.ends (turned e))))) (turned_end (one, other) e)
        ∙ sym (reads unbroken_at (turned e));
    apart = h.apart;
  }
    where
      reads : {Y : Type 0} (f : Option EndState → Y) (e : End) → f (end_of (on_link now one other weight).world.ends e)
          ≡ cond (is_end (other, one) e) (f (Some (new_end weight))) (cond (is_end (one, other) e) (f (Some (new_end weight))) (f (end_of w.ends e)))
      reads f e = read_put_end (put_end w.ends (one, other) (new_end weight)) (other, one) (new_end weight) f e
          ∙ ap (λ z. cond (is_end (other, one) e) (f (Some (new_end weight))) z) (read_put_end w.ends (one, other) (new_end weight) f e)

      empty : (e : End) (b d : Bool) → cond b false (cond d false (up_of (end_of w.ends e))) ≡ false → cond b false (cond d false (has_queue (end_of w.ends e))) ≡ false
      empty e true d k = refl
      empty e false true k = refl
      empty e false false k = h.down_ends e k

      silent : (e : End) (b d : Bool) → cond b true (cond d true (unbroken_at (end_of w.ends e))) ≡ false → cond b false (cond d false (has_wire (end_of w.ends e))) ≡ false
      silent e true d k = refl
      silent e false true k = refl
      silent e false false k = h.broken_links e k

      sends_on : (e : End) → there_in w e.1 ≡ true → (b d : Bool) → cond b false (cond d false (has_wire (end_of w.ends e))) ≡ true →
          cond d false (cond b false (up_of (end_of w.ends (turned e)))) ≡ true
      sends_on e k true d t = absurd (false≢true t)
      sends_on e k false true t = absurd (false≢true t)
      sends_on e k false false t = h.senders e k t

      its : (e : End) → is_client_in w e.1 ≡ true → (b : Bool) → is_end (other, one) e ≡ b → (d : Bool) → is_end (one, other) e ≡ d →
          cond b true (cond d true (unbroken_at (end_of w.ends e))) ≡ true → cond b false (cond d false (up_of (end_of w.ends e))) ≡ true
      its e k true same d j u = absurd (true≢false (sym (ap is_some er) ∙ ap (λ z. there_in w z.1) (same_end (other, one) e same) ∙ h.apart e.1 k))
      its e k false g true j u = absurd (true≢false (sym (ap is_some eq) ∙ ap (λ z. there_in w z.1) (same_end (one, other) e j) ∙ h.apart e.1 k))
      its e k false g false j u = h.clients e k u

      swap : (b d u v : Bool) → u ≡ v → cond b true (cond d true u) ≡ cond d true (cond b true v)
      swap true true u v k = refl
      swap true false u v k = refl
      swap false true u v k = refl
      swap false false u v k = k

  came_up : (n : ℕ) (router name : List ℕ) (r : RouterState) → router_of w.routers router ≡ Some r → (s : EndState) → end_of w.ends (router, name) ≡ Some s → IsKept (on_up now n router name r s)
  came_up n router name r er s es sound' = record {
    down_ends = λ e k. queue_after half router r.node event n e (unsent router r er event w' refl sound' e k) ∙ keep_with_end w.ends (router, name) (lifted s) has_queue e s es refl
        ∙ empty e (is_end (router, name) e) (sym (up_is e) ∙ k);
    broken_links = λ e k. kept has_wire (λ z ms. refl) refl e ∙ h.broken_links e (sym (kept unbroken_at (λ z ms. refl) refl e) ∙ k);
    senders = λ e q k. up_is (turned e) ∙ still (is_end (router, name) (turned e)) (up_of (end_of w.ends (turned e)))
        (h.senders e (sym (routers_are e.1) ∙ q) (sym (kept has_wire (λ z ms. refl) refl e) ∙ k));
    clients = λ e k u. up_is e ∙ still (is_end (router, name) e) (up_of (end_of w.ends e)) (h.clients e k (sym (kept unbroken_at (λ z ms. refl) refl e) ∙ u));
    both_ends = λ e a b. kept unbroken_at (λ z ms. refl) refl e ∙ h.both_ends e (sym (routers_are e.0) ∙ a) (sym (routers_are e.1) ∙ b) ∙ sym (kept unbroken_at (λ z ms. refl) refl (turned e));
    apart = λ y k. routers_are y ∙ h.apart y k;
  }
    where
      w' : WorldState
      w' = (on_up now n router name r s).world

      event : Event
      event = up_event r (peer_of w name s.weight)

      half : Ends
      half = with_end w.ends (router, name) (lifted s)

      kept : {Y : Type 0} (f : Option EndState → Y) → ((z : EndState) (ms : List Msg) → f (Some (queued z ms n)) ≡ f (Some z)) → f (Some (lifted s)) ≡ f (Some s) → (e : End) →
          f (end_of w'.ends e) ≡ f (end_of w.ends e)
      kept f queues same e = keep_all_queued half router r.node event n f e (λ z. queues z (sends_to r.node event e.1)) ∙ keep_with_end w.ends (router, name) (lifted s) f e s es same

      up_is : (e : End) → up_of (end_of w'.ends e) ≡ cond (is_end (router, name) e) true (up_of (end_of w.ends e))
      up_is e = keep_all_queued half router r.node event n up_of e (λ z. refl) ∙ read_with_end w.ends (router, name) (lifted s) up_of e (ap is_some es)

      routers_are : (x : List ℕ) → there_in w' x ≡ there_in w x
      routers_are x = read_kept is_some w.routers router x r (hearing r event) er refl

      still : (b v : Bool) → v ≡ true → cond b true v ≡ true
      still true v k = refl
      still false v k = k

      empty : (e : End) (b : Bool) → cond b true (up_of (end_of w.ends e)) ≡ false → has_queue (end_of w.ends e) ≡ false
      empty e true k = absurd (true≢false k)
      empty e false k = h.down_ends e k

  broke : (router name : List ℕ) → Orderly (on_break now router name).world
  broke router name = record {
    down_ends = λ e k. kept has_queue (λ z. refl) e ∙ h.down_ends e (sym (kept up_of (λ z. refl) e) ∙ k);
    broken_links = λ e k. wire_is e ∙ silent e (is_end (name, router) e) (is_end (router, name) e) (sym (unbroken_is e) ∙ k);
    senders = λ e q k. kept up_of (λ z. refl) (turned e) ∙ h.senders e q (was (is_end (name, router) e) (is_end (router, name) e) (has_wire (end_of w.ends e)) (sym (wire_is e) ∙ k));
    clients = λ e k u. kept up_of (λ z. refl) e ∙ h.clients e k (was (is_end (name, router) e) (is_end (router, name) e) (unbroken_at (end_of w.ends e)) (sym (unbroken_is e) ∙ u));
    both_ends = λ e a b. unbroken_is e
        ∙ swap (is_end (name, router) e) (is_end (router, name) e) (unbroken_at (end_of w.ends e)) (unbroken_at (end_of w.ends (turned e))) (h.both_ends e a b)
        ∙ ap (λ z. cond z false (cond (is_end (name, router) e) false (unbroken_at (end_of w.ends (turned e))))) (turned_end (name, router) e)
        ∙ ap (λ z. cond (is_end (name, router) (turned e)) false (cond z false (unbroken_at (end_of w.ends (turned e))))) (turned_end (router, name) e)
        ∙ sym (unbroken_is (turned e));
    apart = h.apart;
  }
    where
      w' : WorldState
      w' = (on_break now router name).world

      half : Ends
      half = changed w.ends (router, name) broken

      kept : {Y : Type 0} (f : Option EndState → Y) → ((z : EndState) → f (Some (broken z)) ≡ f (Some z)) → (e : End) → f (end_of w'.ends e) ≡ f (end_of w.ends e)
      kept f same e = keep_changed half (name, router) broken f e same ∙ keep_changed w.ends (router, name) broken f e same

      -- a reading that is false of broken links
      falls : (f : Option EndState → Bool) → f None ≡ false → ((z : EndState) → f (Some (broken z)) ≡ false) → (e : End) →
          f (end_of w'.ends e) ≡ cond (is_end (name, router) e) false (cond (is_end (router, name) e) false (f (end_of w.ends e)))
      falls f none cut e =
          read_changed half (name, router) broken f e
          ∙ ap (λ z. cond (is_end (name, router) e) z (f (end_of half e))) (is_false (end_of half e))
          ∙ ap (λ z. cond (is_end (name, router) e) false z) (read_changed w.ends (router, name) broken f e ∙ ap (λ z. cond (is_end (router, name) e) z (f (end_of w.ends e))) (is_false (end_of w.ends e)))
        where
          is_false : (o : Option EndState) → f (option_map broken o) ≡ false
          is_false None = none
          is_false (Some z) = cut z

      unbroken_is : (e : End) → unbroken_at (end_of w'.ends e) ≡ cond (is_end (name, router) e) false (cond (is_end (router, name) e) false (unbroken_at (end_of w.ends e)))
      unbroken_is e = falls unbroken_at refl (λ z. refl) e

      wire_is : (e : End) → has_wire (end_of w'.ends e) ≡ cond (is_end (name, router) e) false (cond (is_end (router, name) e) false (has_wire (end_of w.ends e)))
      wire_is e = falls has_wire refl (λ z. refl) e

      silent : (e : End) (b d : Bool) → cond b false (cond d false (unbroken_at (end_of w.ends e))) ≡ false → cond b false (cond d false (has_wire (end_of w.ends e))) ≡ false
      silent e true d k = refl
      silent e false true k = refl
      silent e false false k = h.broken_links e k

      was : (b d v : Bool) → cond b false (cond d false v) ≡ true → v ≡ true
      was true d v k = absurd (false≢true k)
      was false true v k = absurd (false≢true k)
      was false false v k = k

      swap : (b d u v : Bool) → u ≡ v → cond b false (cond d false u) ≡ cond d false (cond b false v)
      swap true true u v k = refl
      swap true false u v k = refl
      swap false true u v k = refl
      swap false false u v k = k

  went_down : (n : ℕ) (router name : List ℕ) (r : RouterState) → router_of w.routers router ≡ Some r → (s : EndState) → end_of w.ends (router, name) ≡ Some s → s.unbroken ≡ false → (l : LinkNo) →
      IsKept (on_down now n router name r l)
  went_down n router name r er s es cut l sound' = record {
    down_ends = λ e k. queue_is e k ∙ empty e (is_end (router, name) e) (sym (up_is e) ∙ k);
    broken_links = λ e k. kept has_wire (λ z ms. refl) (λ z. refl) e ∙ h.broken_links e (sym (kept unbroken_at (λ z ms. refl) (λ z. refl) e) ∙ k);
    senders = λ e q k. up_is (turned e) ∙ sends_on e (sym (routers_are e.1) ∙ q) (sym (kept has_wire (λ z ms. refl) (λ z. refl) e) ∙ k) (is_end (router, name) (turned e)) refl;
    clients = λ e k u. up_is e ∙ its e k (sym (kept unbroken_at (λ z ms. refl) (λ z. refl) e) ∙ u) (is_end (router, name) e) refl;
    both_ends = λ e a b. kept unbroken_at (λ z ms. refl) (λ z. refl) e ∙ h.both_ends e (sym (routers_are e.0) ∙ a) (sym (routers_are e.1) ∙ b)
        ∙ sym (kept unbroken_at (λ z ms. refl) (λ z. refl) (turned e));
    apart = λ y k. routers_are y ∙ h.apart y k;
  }
    where
      w' : WorldState
      w' = (on_down now n router name r l).world

      half : Ends
      half = all_queued w.ends router r.node (Down l) n

      kept : {Y : Type 0} (f : Option EndState → Y) → ((z : EndState) (ms : List Msg) → f (Some (queued z ms n)) ≡ f (Some z)) → ((z : EndState) → f (Some (lowered z)) ≡ f (Some z)) → (e : End) →
          f (end_of w'.ends e) ≡ f (end_of w.ends e)
      kept f queues same e = keep_changed half (router, name) lowered f e same ∙ keep_all_queued w.ends router r.node (Down l) n f e (λ z. queues z (sends_to r.node (Down l) e.1))

      falls : (f : Option EndState → Bool) → f None ≡ false → ((z : EndState) → f (Some (lowered z)) ≡ false) → (e : End) →
          f (end_of w'.ends e) ≡ cond (is_end (router, name) e) false (f (end_of half e))
      falls f none cut e = read_changed half (router, name) lowered f e ∙ ap (λ z. cond (is_end (router, name) e) z (f (end_of half e))) (is_false (end_of half e))
        where
          is_false : (o : Option EndState) → f (option_map lowered o) ≡ false
          is_false None = none
          is_false (Some z) = cut z

      up_is : (e : End) → up_of (end_of w'.ends e) ≡ cond (is_end (router, name) e) false (up_of (end_of w.ends e))
      up_is e = falls up_of refl (λ z. refl) e ∙ ap (λ z. cond (is_end (router, name) e) false z) (keep_all_queued w.ends router r.node (Down l) n up_of e (λ z. refl))

      queue_is : (e : End) → up_of (end_of w'.ends e) ≡ false → has_queue (end_of w'.ends e) ≡ cond (is_end (router, name) e) false (has_queue (end_of w.ends e))
      queue_is e down = falls has_queue refl (λ z. refl) e
          ∙ ap (λ z. cond (is_end (router, name) e) false z) (queue_after w.ends router r.node (Down l) n e (unsent router r er (Down l) w' refl sound' e down))

      routers_are : (x : List ℕ) → there_in w' x ≡ there_in w x
      routers_are x = read_kept is_some w.routers router x r (hearing r (Down l)) er refl

      empty : (e : End) (b : Bool) → cond b false (up_of (end_of w.ends e)) ≡ false → cond b false (has_queue (end_of w.ends e)) ≡ false
      empty e true k = refl
      empty e false k = h.down_ends e k

      -- at the other end of the broken link nothing is on the wire
      sends_on : (e : End) → there_in w e.1 ≡ true → has_wire (end_of w.ends e) ≡ true → (b : Bool) → is_end (router, name) (turned e) ≡ b → cond b false (up_of (end_of w.ends (turned e))) ≡ true
      sends_on e q k false other = h.senders e q k
      sends_on e q k true same =
          let cut_too : unbroken_at (end_of w.ends e) ≡ false =
          h.both_ends e (sound.routers e.0 e.1 (wire_there (end_of w.ends e) k)) q ∙ ap (λ z. unbroken_at (end_of w.ends z)) (sym (same_end (router, name) (turned e) same)) ∙ ap unbroken_at es ∙ cut in
          absurd (true≢false (sym k ∙ h.broken_links e cut_too))

      its : (e : End) → is_client_in w e.1 ≡ true → unbroken_at (end_of w.ends e) ≡ true → (b : Bool) → is_end (router, name) e ≡ b → cond b false (up_of (end_of w.ends e)) ≡ true
      its e k u false other = h.clients e k u
      its e k u true same = absurd (true≢false (sym u ∙ ap (λ z. unbroken_at (end_of w.ends z)) (sym (same_end (router, name) e same)) ∙ ap unbroken_at es ∙ cut))

  -- ---- all acts

  declares : (n : ℕ) (client : List ℕ) (kind : Kind) (id : ℕ) (key : List ℕ) (msg : Msg) → IfSome (went now (declare_step now.world n client kind id key msg)) IsKept
  declares n client kind id key msg = for_declare now IsKept n client kind id key msg
      (λ s es fresh en ee unbroken r er room sound'. written n client s es en ee unbroken msg _ refl
      (λ x. read_kept is_some w.routers s.router x r _ er refl) (λ x. read_kept is_some w.clients client x s _ es refl))

  undeclares : (n : ℕ) (client : List ℕ) (kind : Kind) (id : ℕ) (msg : Msg) → IfSome (went now (undeclare_step now.world n client kind id msg)) IsKept
  undeclares n client kind id msg = for_undeclare now IsKept n client kind id msg
      (λ s es known en ee unbroken sound'. written n client s es en ee unbroken msg _ refl (λ x. refl) (λ x. read_kept is_some w.clients client x s _ es refl))

  says : (n : ℕ) (client : List ℕ) (msg : Msg) → Says now IsKept n client msg
  says n client msg s es en ee unbroken clients same sound' = written n client s es en ee unbroken msg _ refl (λ x. refl) (there_same w.clients clients same)

  weighs : (n : ℕ) (client key : List ℕ) (msg : Msg) → Weighs now IsKept n client key msg
  weighs n client key msg s es en ee unbroken r er room clients same sound' = written n client s es en ee unbroken msg _ refl
      (λ x. read_kept is_some w.routers s.router x r _ er refl) (there_same w.clients clients same)

  pub act_orderly : (n : ℕ) (act : Act) → IfSome (went now (outcome now.world n act)) IsKept
  unfolding outcome
  act_orderly n (c.Router id) = for_router now IsKept id (λ free room sound'. router_came id free)
  act_orderly n (c.Client id router) = for_client now IsKept (if_sound Orderly orderly_told) n id router (λ r er free room taken. client_came n id router r er free)
  act_orderly n (c.Link one other weight) = for_link now IsKept one other weight (λ apart r er q eq free room sound'. linked one other weight r q er eq)
  act_orderly n (c.Up router name) = for_up now IsKept (if_sound Orderly orderly_told) n router name (λ r er there s es unbroken down taken. came_up n router name r er s es)
  act_orderly n (c.Break router name) = for_break now IsKept router name (λ r er there s es unbroken sound'. broke router name)
  act_orderly n (c.Down router name) = for_down now IsKept (if_sound Orderly orderly_told) n router name (λ r er there s es up cut l el taken. went_down n router name r er s es cut l)
  act_orderly n (c.Sub client id key) = declares n client sort.Sub id key (m.Sub id key)
  act_orderly n (c.Unsub client id) = undeclares n client sort.Sub id (m.Unsub id)
  act_orderly n (c.Token client id key) = declares n client sort.Token id key (m.Token id key)
  act_orderly n (c.Untoken client id) = undeclares n client sort.Token id (m.Untoken id)
  act_orderly n (c.Able client id key complete) = declares n client (able_kind complete) id key (m.Able id key complete)
  act_orderly n (c.Unable client id) = undeclares n client sort.Able id (m.Unable id)
  act_orderly n (c.Interest client id mode kinds key aggregate) = interest_says now IsKept n client id mode kinds key aggregate
      (says n client (m.Interest id (is_current mode) (is_future mode) kinds key aggregate)) (weighs n client (unwrap_or key []) (m.Interest id (is_current mode) (is_future mode) kinds key aggregate))
  act_orderly n (c.Uninterest client id) = uninterest_says now IsKept n client id (says n client (m.EndInterest id))
  act_orderly n (c.Publish client content) = publish_says now IsKept n client content (says n client (m.Push None content))
  act_orderly n (c.Get client number target content) = get_says now IsKept n client number target content (says n client (m.Request None number target content))
  act_orderly n (c.Reply client number content) = reply_says now IsKept n client number content (says n client (m.Response number content))
  act_orderly n (c.End client number) = end_says now IsKept n client number (says n client (m.Final number no_extras))
  act_orderly n (c.Handle router from) = for_handle now IsKept (if_sound Orderly orderly_told) router from (λ r er there s es up msg tag xs front l el taken. handled router from r er s es msg tag xs front l)
  act_orderly n (c.Take router to) = for_take now IsKept router to (λ r er there s es up unbroken msg tag xs front sound'. took router to r er s es up unbroken msg tag xs)
  act_orderly n c.Mark = for_mark now IsKept n (λ settled joined sound'. h)
  act_orderly n (c.Show router) = for_show now IsKept router (λ r er sound'. h)

pub empty_orderly : Orderly empty_world
empty_orderly = record {
  down_ends = λ e k. refl;
  broken_links = λ e k. refl;
  senders = λ e r k. absurd (false≢true r);
  clients = λ e k u. absurd (false≢true k);
  both_ends = λ e a b. refl;
  apart = λ y k. refl;
}
