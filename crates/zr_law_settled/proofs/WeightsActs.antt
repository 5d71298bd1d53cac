-- No router of a script refuses a message for its weight, or since its own log's numbers have run out (`weights_take`), nor that a client leaves
-- (`weights_leave`). What holds of weights (`WeightsHold`) holds of the first world (`weights_first`), and each act that is not refused
-- keeps it (`weights_keep`), and so does the counting of a run's steps (`weights_counted`). Each lemma is of any world, and needs nothing else.
use Rattle.std.proofs.Common.{◌≡◌, ◌≤◌, ◌+◌, ℕ, Bool, true, false, cond, List, [], ◌∷◌, Option, Some, None, Ok, Err, is_some, refl, ap, ◌∙◌, subst, arith}
use Rattle.std.specs.Prelude.{IfOk, IfSome, nat_le, unwrap_or}
use Rattle.std.specs.List.{AllByRecursion}
use Rattle.std.specs.Ordering.{nat_cmp}
use Rattle.std.specs.Cmp.Lexicographic.{slice_cmp}
use Rattle.std.specs.BTreeMap.{insert_entry}
use Rattle.std.proofs.lemmas.Bool.{leb-true}
use Rattle.zr_id.specs.Zid.{is_named}
use Rattle.zr_id.specs.declared.link.LinkNo.{LinkNo}
use Rattle.zr_graph.proofs.Names.{same_refl}
use Rattle.zr_msg.specs.declared.decl.Kind.{Kind}
use Rattle.zr_msg.specs.declared.decl.Kind.TheVariants as k
use Rattle.zr_msg.specs.declared.msg.Kinds.{Kinds}
use Rattle.zr_msg.specs.declared.msg.Msg.{Msg}
use Rattle.zr_msg.specs.declared.msg.Msg.TheVariants as m
use Rattle.zr_msg.specs.Extras.{no_extras}
use Rattle.zr_msg.specs.declared.event.Event.TheVariants.{Up, Down, From}
use Rattle.zr_msg.specs.Peer.{PeerState}
use Rattle.zr_msg.specs.declared.peer.Role.TheVariants.{Client}
use Rattle.zr_script_spec.specs.declared.command.Act.{Act}
use Rattle.zr_script_spec.specs.Mode.{is_current, is_future}
use Rattle.zr_script_spec.specs.declared.command.Act.TheVariants as a
use Rattle.zr_log_set.specs.Decls.{weight}
use Rattle.zr_local.specs.State.{held_weight}
use Rattle.zr_node_spec.specs.Tables.{free_link}
use Rattle.zr_node_spec.specs.State.{local_state}
use Rattle.zr_node_spec.specs.Table.{able_kind, rows_left, refuses_rows, refuses, live}
use Rattle.zr_lists.proofs.Each.{All-append}
use Rattle.zr_world_spec.specs.World.{Tagged, RouterState, EndState, ClientState, End, Ends, WorldState, with_booked, with_ends, with_client, with_end, with_wire, with_queue, put_end, new_end, new_client, router_of, client_of, end_of, empty_world, lifted, lowered, broken, sent, changed, most_weight, weight_of, Clients}
use Rattle.zr_world_spec.specs.Acts.{Outcome, outcome, sending, peer_of, declaring, undeclaring, received, wanting}
use Rattle.zr_world_spec.specs.Moments.{Moment, went}
use Rattle.zr_world_spec.proofs.Names.{names}
use Rattle.zr_world_spec.proofs.Cases.{w_link, w_break, w_sent, w_declare, w_take, for_router, for_link, for_break, for_declare, for_undeclare, Says, publish_says, get_says, reply_says, end_says, for_take, for_mark, for_show, w_weighed, for_interest, uninterest_says}
use Rattle.zr_law_settled.proofs.Told.{w_client, w_up, w_handle, for_client, for_up, for_down, for_handle}
use Rattle.zr_law_settled.proofs.Spreading.{Name}
use Rattle.zr_law_settled.proofs.Ends.{AtEnds, of_found, with_end_all, put_end_all, changed_all}
use Rattle.zr_law_settled.proofs.Weights.{Ever, ever_more, weighs, gained, wire_weight, waiting, IsTold, IsSent, IsUnderWay, weight_at, held_at, number_at, WeightsHold, IsInTurn, live_weight}
use Rattle.zr_law_settled.proofs.WeightsKnown.{GoesOn, more_goes_on, more_weighs, more_other}
use Rattle.zr_law_settled.proofs.WeightsNodes.{HasRoom, up_weighs, down_weighs, from_weighs, within_later, gained_weigh, gained_there, takes, lets_leave}
use Rattle.zr_law_settled.proofs.WeightsWaiting.{waiting_changed, waiting_put, waiting_same, waiting_sent, waiting_popped, wire_push, one_waits}
use Rattle.zr_law_settled.proofs.WeightsKeeping.{ends_hold, clients_hold, under_later, router_holds, weighed_hold, heard_hold, weights_told}

-- ---- the first world

pub weights_first : WeightsHold empty_world
weights_first = record {
  ever = λ x. [];
  most = λ x. omega arith;
  held = λ x. omega arith;
  number = λ x. omega arith;
  declared = λ x. omega arith;
  within = λ x r found. absurd (cc);
  way = λ q. tt;
}

pub weights_counted : (w : WorldState) (booked : ℕ) → WeightsHold w → WeightsHold (with_booked w booked)
weights_counted w booked h = record { ever = h.ever; most = h.most; held = h.held; number = h.number; declared = h.declared; within = h.within; way = h.way }

-- ---- acts

-- an end at which nothing waits
nothing_waits : (ever : Ever) (up : Bool) (weight : ℕ) → IsUnderWay ever (record { up = up; unbroken = true; queue = []; wire = []; weight = weight })
nothing_waits ever up weight = record { wire = tt; queue = tt }

module _ (w : WorldState) (h : WeightsHold w) where
  -- what a message adds to its end's wire
  wire_more : (s : EndState) (msg : Msg) (tag : ℕ) → IsTold h.ever msg → IsUnderWay h.ever s → IsUnderWay h.ever (sent s msg tag)
  wire_more s msg tag told u = record { wire = All-append (λ t. IsTold h.ever t.msg) s.wire (record { msg = msg; tag = tag } ∷ []) u.wire (told, tt); queue = u.queue }

  at_end : (q : End) (s : EndState) → end_of w.ends q ≡ Some s → IsUnderWay h.ever s
  at_end q s found = of_found (IsUnderWay h.ever) (end_of w.ends q) s found (h.way q)

  -- ---- ends

  link_holds : (one other : Name) (weight : ℕ) → WeightsHold (w_link w one other weight)
  link_holds one other weight = ends_hold w h (put_end (put_end w.ends (one, other) (new_end weight)) (other, one) (new_end weight))
      (λ x. omega (arith, waiting_put (put_end w.ends (one, other) (new_end weight)) (other, one) (new_end weight) x refl, waiting_put w.ends (one, other) (new_end weight) x refl))
      (put_end_all (IsUnderWay h.ever) (put_end w.ends (one, other) (new_end weight)) (put_end_all (IsUnderWay h.ever) w.ends h.way (one, other) (new_end weight) (nothing_waits h.ever false weight)) (other, one) (new_end weight) (nothing_waits h.ever false weight))

  break_holds : (router name : Name) → WeightsHold (w_break w router name)
  break_holds router name = ends_hold w h (changed (changed w.ends (router, name) broken) (name, router) broken)
      (λ x. omega (arith, waiting_changed (changed w.ends (router, name) broken) (name, router) broken x (λ s. omega arith), waiting_changed w.ends (router, name) broken x (λ s. omega arith)))
      (changed_all (IsUnderWay h.ever) (changed w.ends (router, name) broken) (changed_all (IsUnderWay h.ever) w.ends h.way (router, name) broken cut) (name, router) broken cut)
    where
      cut : (s : EndState) → IsUnderWay h.ever s → IsUnderWay h.ever (broken s)
      cut s u = record { wire = tt; queue = u.queue }

  lowered_holds : (router name : Name) → WeightsHold (with_ends w (changed w.ends (router, name) lowered))
  lowered_holds router name = ends_hold w h (changed w.ends (router, name) lowered) (λ x. waiting_changed w.ends (router, name) lowered x (λ s. omega arith))
      (changed_all (IsUnderWay h.ever) w.ends h.way (router, name) lowered (λ s u. record { wire = u.wire; queue = tt }))

  -- a router's message goes onto the wire
  take_holds : (router to : Name) (s : EndState) → end_of w.ends (router, to) ≡ Some s → (msg : Msg) (tag : ℕ) (xs : List Tagged) → s.queue ≡ record { msg = msg; tag = tag } ∷ xs → WeightsHold (w_take w router to s msg tag xs)
  take_holds router to s found msg tag xs front = clients_hold _ (received w.clients to msg (client_of w.clients to)) (
      ends_hold w h (changed popped (to, router) (λ e. sent e msg tag))
      (λ x. let same = waiting_same w.ends (router, to) s found msg tag x (with_queue s xs) refl in
      omega (arith, waiting_changed popped (to, router) (λ e. sent e msg tag) x light, same))
      (changed_all (IsUnderWay h.ever) popped
      (with_end_all (IsUnderWay h.ever) w.ends h.way (router, to) (with_queue s xs) (ap is_some found) (record { wire = (at_end (router, to) s found).wire; queue = all.1 })) (to, router) (λ e. sent e msg tag)
      (λ e u. wire_more e msg tag all.0.0 u)))
    where
      popped : Ends
      popped = with_end w.ends (router, to) (with_queue s xs)

      all : IsSent h.ever msg × AllByRecursion (λ t. IsSent h.ever t.msg) xs
      all = subst (λ q. AllByRecursion (λ t. IsSent h.ever t.msg) q) front (at_end (router, to) s found).queue

      light : (e : EndState) → wire_weight (sent e msg tag).wire ≤ wire_weight e.wire
      light e = omega (arith, wire_push e.wire msg tag, all.0.1)

  -- ---- what a client says

  -- a message that declares nothing
  says_holds : (n : ℕ) (name : Name) (s : ClientState) (e : EndState) → end_of w.ends (s.router, name) ≡ Some e → (msg : Msg) → IsTold h.ever msg → weighs msg ≡ 0 → WeightsHold (w_sent w n name s e msg)
  says_holds n name s e found msg told light = ends_hold w h (with_end w.ends (s.router, name) (sent e msg n))
      (λ x. omega (arith, waiting_sent w.ends (s.router, name) e found msg n x, none (is_named x s.router)))
      (with_end_all (IsUnderWay h.ever) w.ends h.way (s.router, name) (sent e msg n) (ap is_some found) (wire_more e msg n told (at_end (s.router, name) e found)))
    where
      none : (t : Bool) → cond t (weighs msg) 0 ≡ 0
      none true = light
      none false = refl

  -- and one that weighs
  heavy_holds : (n : ℕ) (name : Name) (key : List ℕ) (msg : Msg) (s : ClientState) (e : EndState) → end_of w.ends (s.router, name) ≡ Some e → (r : RouterState) → router_of w.routers s.router ≡ Some r →
      nat_le (r.weight + weight_of key) most_weight ≡ true → IsTold h.ever msg → weighs msg ≡ weight_of key → (clients : Clients) → WeightsHold (w_weighed w n name key msg s e r clients)
  heavy_holds n name key msg s e found r there room told heavy clients =
      clients_hold _ clients
      (weighed_hold w h s.router r there key (leb-true (r.weight + weight_of key) most_weight room) (with_end w.ends (s.router, name) (sent e msg n)) here other
      (with_end_all (IsUnderWay h.ever) w.ends h.way (s.router, name) (sent e msg n) (ap is_some found) (wire_more e msg n told (at_end (s.router, name) e found))))
    where
      here : waiting (with_end w.ends (s.router, name) (sent e msg n)) s.router ≤ waiting w.ends s.router + weight_of key
      here =
          let mine : cond (is_named s.router s.router) (weighs msg) 0 ≡ weight_of key = ap (λ t. cond t (weighs msg) 0) (same_refl s.router) ∙ heavy in
          omega (arith, waiting_sent w.ends (s.router, name) e found msg n s.router, mine)

      other : (z : Name) → is_named s.router z ≡ false → waiting (with_end w.ends (s.router, name) (sent e msg n)) z ≤ waiting w.ends z
      other z apart =
          let none : cond (is_named z s.router) (weighs msg) 0 ≡ 0 = ap (λ t. cond t (weighs msg) 0) (names.symm z s.router ∙ apart) in
          omega (arith, waiting_sent w.ends (s.router, name) e found msg n z, none)

  declare_holds : (n : ℕ) (name : Name) (kind : Kind) (id : ℕ) (key : List ℕ) (msg : Msg) (s : ClientState) (e : EndState) → end_of w.ends (s.router, name) ≡ Some e →
      (r : RouterState) → router_of w.routers s.router ≡ Some r → nat_le (r.weight + weight_of key) most_weight ≡ true → IsTold h.ever msg → weighs msg ≡ weight_of key → WeightsHold (w_declare w n name kind id key msg s e r)
  declare_holds n name kind id key msg s e found r there room told heavy = heavy_holds n name key msg s e found r there room told heavy (with_client w.clients name (declaring s kind id))

  -- ---- what a router hears

  -- nothing more is declared
  same_ever : GoesOn h.ever h.ever
  same_ever = record { stays = λ z d there. there }

  pub up_holds : (router : Name) (r : RouterState) → router_of w.routers router ≡ Some r → (link : LinkNo) (peer : PeerState) (tag : ℕ) (es : Ends) → ((x : Name) → waiting es x ≤ waiting w.ends x) → AtEnds (IsUnderWay h.ever) es →
      WeightsHold (sending (with_ends w es) router r (Up link peer) tag)
  up_holds router r found link peer tag es less way =
      heard_hold w h router r found (Up link peer) tag es h.ever 0 same_ever (λ z e. refl) (omega arith) (omega (arith, less router)) (λ z e. less z) way (up_weighs h.ever router r.node (h.within router r found) link peer)

  client_holds : (n : ℕ) (id router : Name) (r : RouterState) → router_of w.routers router ≡ Some r → WeightsHold (w_client w n id router r)
  client_holds n id router r found =
      clients_hold _ (insert_entry (slice_cmp nat_cmp) w.clients id (new_client router))
      (up_holds router r found (record { 0 = free_link r.node.links }) (record { id = id; role = Client; weight = 1 }) n (put_end w.ends (router, id) (lifted (new_end 1)))
      (λ x. waiting_put w.ends (router, id) (lifted (new_end 1)) x refl) (put_end_all (IsUnderWay h.ever) w.ends h.way (router, id) (lifted (new_end 1)) (nothing_waits h.ever true 1)))

  comes_up_holds : (n : ℕ) (router name : Name) (r : RouterState) → router_of w.routers router ≡ Some r → (s : EndState) → end_of w.ends (router, name) ≡ Some s → WeightsHold (w_up w n router name r s)
  comes_up_holds n router name r found s there =
      up_holds router r found (record { 0 = free_link r.node.links }) (peer_of w name s.weight) n (with_end w.ends (router, name) (lifted s))
      (λ x. let same = waiting_same w.ends (router, name) s there (m.EndInterest 0) n x (lifted s) refl in omega (arith, same))
      (with_end_all (IsUnderWay h.ever) w.ends h.way (router, name) (lifted s) (ap is_some there) (record { wire = (at_end (router, name) s there).wire; queue = (at_end (router, name) s there).queue }))

  pub hears_down : (n : ℕ) (router : Name) (r : RouterState) → router_of w.routers router ≡ Some r → (link : LinkNo) → WeightsHold (sending w router r (Down link) n)
  hears_down n router r found link =
      heard_hold w h router r found (Down link) n w.ends h.ever 0 same_ever (λ z e. refl) (omega arith) (omega arith) (λ z e. omega arith) h.way (down_weighs h.ever router r.node (h.within router r found) link)

  -- a message is handled: what it declares was declared then
  pub handle_holds : (router from : Name) (r : RouterState) → router_of w.routers router ≡ Some r → (s : EndState) → end_of w.ends (router, from) ≡ Some s → (msg : Msg) (tag : ℕ) (xs : List Tagged) →
      s.wire ≡ record { msg = msg; tag = tag } ∷ xs → (link : LinkNo) → WeightsHold (w_handle w router from r s link msg tag xs)
  handle_holds router from r found s there msg tag xs front link =
      heard_hold w h router r found (From link msg) tag popped ever (weighs msg) on (λ z e. more_other h.ever router (gained msg) z e) (omega (arith, more_weighs h.ever router (gained msg), gained_weigh msg))
      here other
      (with_end_all (IsUnderWay ever) w.ends way (router, from) (with_wire s xs) (ap is_some there) (record { wire = all.1; queue = old.queue }))
      (from_weighs ever router r.node (within_later h.ever ever router r.node on (h.within router r found)) link msg (gained_there h.ever router (gained msg)) all.0)
    where
      popped : Ends
      popped = with_end w.ends (router, from) (with_wire s xs)

      ever : Ever
      ever = ever_more h.ever router (gained msg)

      on : GoesOn h.ever ever
      on = more_goes_on h.ever router (gained msg)

      way : AtEnds (IsUnderWay ever) w.ends
      way q = by (end_of w.ends q) (h.way q)
        where
          by : (o : Option EndState) → IfSome o (IsUnderWay h.ever) → IfSome o (IsUnderWay ever)
          by None u = tt
          by (Some e) u = under_later h.ever ever on e u

      old : IsUnderWay ever s
      old = under_later h.ever ever on s (at_end (router, from) s there)

      all : IsTold ever msg × AllByRecursion (λ t. IsTold ever t.msg) xs
      all = subst (λ q. AllByRecursion (λ t. IsTold ever t.msg) q) front old.wire

      here : waiting popped router + weighs msg ≤ waiting w.ends router
      here =
          let mine : cond (is_named router router) (weighs msg) 0 ≡ weighs msg = ap (λ t. cond t (weighs msg) 0) (same_refl router) in
          omega (arith, waiting_popped w.ends (router, from) s there msg tag router xs front, mine)

      other : (z : Name) → is_named router z ≡ false → waiting popped z ≤ waiting w.ends z
      other z e = omega (arith, waiting_popped w.ends (router, from) s there msg tag z xs front)

-- ---- every act

module _ (now : Moment) (h : WeightsHold now.world) where
  abbrev w : WorldState
  w = now.world

  abbrev pub KeptWeights : Moment → Type 0
  KeptWeights next = WeightsHold next.world

  -- a client says something that declares nothing
  says : (n : ℕ) (name : Name) (msg : Msg) → IsTold h.ever msg → weighs msg ≡ 0 → Says now KeptWeights n name msg
  says n name msg told light s found e at unbroken clients same = clients_hold _ clients (says_holds w h n name s e at msg told light)

  -- an interest weighs as much as a declaration of its key where it is in what is declared later, and else nothing
  light : (id : ℕ) (current future : Bool) (kinds : Kinds) (key : Option (List ℕ)) (aggregate : Bool) → future ≡ false → weighs (m.Interest id current future kinds key aggregate) ≡ 0
  light id current future kinds key aggregate passing = ap (λ t. live_weight (live t (record { id = id; kinds = kinds; key = key; aggregate = aggregate }))) passing

  heavy : (id : ℕ) (current future : Bool) (kinds : Kinds) (key : Option (List ℕ)) (aggregate : Bool) → future ≡ true → weighs (m.Interest id current future kinds key aggregate) ≡ weight_of (unwrap_or key [])
  heavy id current future kinds key aggregate lasting = ap (λ t. live_weight (live t (record { id = id; kinds = kinds; key = key; aggregate = aggregate }))) lasting ∙ by key
    where
      by : (key : Option (List ℕ)) → live_weight (Some (record { id = id; kinds = kinds; key = key; aggregate = aggregate })) ≡ weight_of (unwrap_or key [])
      by None = refl
      by (Some k) = refl

  pub weights_kept : (n : ℕ) (act : Act) → IfSome (went now (outcome w n act)) KeptWeights
  unfolding outcome
  weights_kept n (a.Router id) = for_router now KeptWeights id (λ free room. router_holds w h id free)
  weights_kept n (a.Client id router) = for_client now KeptWeights (λ w v report t. weights_told w v t) n id router (λ r found free room taken. client_holds w h n id router r found)
  weights_kept n (a.Link one other weight) = for_link now KeptWeights one other weight (λ apart r found q found' new room. link_holds w h one other weight)
  weights_kept n (a.Up router name) = for_up now KeptWeights (λ w v report t. weights_told w v t) n router name (λ r found there s at unbroken down taken. comes_up_holds w h n router name r found s at)
  weights_kept n (a.Break router name) = for_break now KeptWeights router name (λ r found there s at unbroken. break_holds w h router name)
  weights_kept n (a.Down router name) = for_down now KeptWeights (λ w v report t. weights_told w v t) n router name (λ r found there s at up cut link number taken. lowered_holds _ (hears_down w h n router r found link) router name)
  weights_kept n (a.Sub client id key) = for_declare now KeptWeights n client k.Sub id key (m.Sub id key) (λ s found fresh e at unbroken r there room. declare_holds w h n client k.Sub id key (m.Sub id key) s e at r there room tt refl)
  weights_kept n (a.Unsub client id) = for_undeclare now KeptWeights n client k.Sub id (m.Unsub id) (λ s found known e at unbroken.
      clients_hold _ (with_client w.clients client (undeclaring s k.Sub id)) (says_holds w h n client s e at (m.Unsub id) tt refl))
  weights_kept n (a.Token client id key) = for_declare now KeptWeights n client k.Token id key (m.Token id key) (λ s found fresh e at unbroken r there room. declare_holds w h n client k.Token id key (m.Token id key) s e at r there room tt refl)
  weights_kept n (a.Untoken client id) = for_undeclare now KeptWeights n client k.Token id (m.Untoken id) (λ s found known e at unbroken.
      clients_hold _ (with_client w.clients client (undeclaring s k.Token id)) (says_holds w h n client s e at (m.Untoken id) tt refl))
  weights_kept n (a.Able client id key complete) = for_declare now KeptWeights n client (able_kind complete) id key (m.Able id key complete) (λ s found fresh e at unbroken r there room.
      declare_holds w h n client (able_kind complete) id key (m.Able id key complete) s e at r there room tt refl)
  weights_kept n (a.Unable client id) = for_undeclare now KeptWeights n client k.Able id (m.Unable id) (λ s found known e at unbroken.
      clients_hold _ (with_client w.clients client (undeclaring s k.Able id)) (says_holds w h n client s e at (m.Unable id) tt refl))
  weights_kept n (a.Interest client id mode kinds key aggregate) = for_interest now KeptWeights n client id mode kinds key aggregate
      (λ s found fresh e at unbroken passing. says_holds w h n client s e at (m.Interest id (is_current mode) (is_future mode) kinds key aggregate) tt (light id (is_current mode) (is_future mode) kinds key aggregate passing))
      (λ s found fresh e at unbroken lasting r there room. heavy_holds w h n client (unwrap_or key []) (m.Interest id (is_current mode) (is_future mode) kinds key aggregate) s e at r there room tt
      (heavy id (is_current mode) (is_future mode) kinds key aggregate lasting) (with_client w.clients client (wanting s id)))
  weights_kept n (a.Uninterest client id) = uninterest_says now KeptWeights n client id (says n client (m.EndInterest id) tt refl)
  weights_kept n (a.Publish client content) = publish_says now KeptWeights n client content (says n client (m.Push None content) tt refl)
  weights_kept n (a.Get client number target content) = get_says now KeptWeights n client number target content (says n client (m.Request None number target content) tt refl)
  weights_kept n (a.Reply client number content) = reply_says now KeptWeights n client number content (says n client (m.Response number content) tt refl)
  weights_kept n (a.End client number) = end_says now KeptWeights n client number (says n client (m.Final number no_extras) tt refl)
  weights_kept n (a.Handle router from) = for_handle now KeptWeights (λ w v report t. weights_told w v t) router from (λ r found there s at up msg tag xs front link number taken. handle_holds w h router from r found s at msg tag xs front link)
  weights_kept n (a.Take router to) = for_take now KeptWeights router to (λ r found there s at up unbroken msg tag xs front. take_holds w h router to s at msg tag xs front)
  weights_kept n a.Mark = for_mark now KeptWeights n (λ settled joined. h)
  weights_kept n (a.Show router) = for_show now KeptWeights router (λ r found. h)

pub weights_keep : (w : WorldState) (line : ℕ) (act : Act) → WeightsHold w → IfOk (outcome w line act) (λ x. WeightsHold x.1)
weights_keep w line act h = by (outcome w line act) (weights_kept (record { world = w; report = [] }) h line act)
  where
    by : (o : Outcome) → IfSome (went (record { world = w; report = [] }) o) (λ next. WeightsHold next.world) → IfOk o (λ x. WeightsHold x.1)
    by (Ok x) kept = kept
    by (Err e) kept = tt

-- ---- what is taken

module _ (w : WorldState) (h : WeightsHold w) (x : Name) (r : RouterState) (found : router_of w.routers x ≡ Some r) where
  -- what was declared at any router weighs no more than it may
  all_light : (z : Name) → weight (h.ever z) ≤ most_weight
  all_light z = omega (arith, h.declared z, h.most z)

  -- a router has room for what waits on its wires
  room_for : (more : ℕ) → more ≤ waiting w.ends x → HasRoom r.node more
  room_for more le =
      let weight_is : weight_at (router_of w.routers x) ≡ r.weight = ap weight_at found in
      let held_is : held_at (router_of w.routers x) ≡ held_weight (local_state r.node) = ap held_at found in
      let number_is : number_at (router_of w.routers x) ≡ number_at (Some r) = ap number_at found in
      record { held = omega (arith, h.held x, h.most x, weight_is, held_is, le); number = omega (arith, h.number x, h.most x, weight_is, number_is, le) }

  -- that a client leaves, or any link goes down, is not refused by the log
  pub weights_leave : (link : ℕ) → refuses_rows r.node (rows_left r.node link) ≡ None
  weights_leave link = lets_leave h.ever x r.node (h.within x r found) link (room_for 0 (omega arith))

  -- the oldest message that waits at an end is taken, if it takes back what is there, or no change is missing before it
  pub weights_take : (y : Name) (s : EndState) (t : Tagged) (more : List Tagged) → end_of w.ends (x, y) ≡ Some s → s.wire ≡ t ∷ more → (link : LinkNo) → IsInTurn r.node link.0 t.msg → refuses r.node (From link t.msg) ≡ None
  weights_take y s t more there front link none =
      takes h.ever x r.node (h.within x r found) all_light link t.msg (room_for (weighs t.msg) (one_waits w.ends (x, y) s there t more front x (same_refl x)))
      (subst (λ q. AllByRecursion (λ z. IsTold h.ever z.msg) q) front (of_found (IsUnderWay h.ever) (end_of w.ends (x, y)) s there (h.way (x, y))).wire).0 none
