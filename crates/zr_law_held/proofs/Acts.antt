-- No act makes more of the replies of a world than what it replies (`act_weighs`), so they weigh no more than all that clients have replied
-- (`replies_weigh`), and a router has room for each (`replies_have_room`).
use Rattle.std.proofs.Common.{◌≡◌, ◌≤◌, ◌+◌, ℕ, Bool, true, false, cond, List, [], ◌∷◌, Option, Some, None, refl, sym, ap, ◌∙◌, subst, arith}
use Rattle.std.specs.Prelude.{IfSome, is_some, unwrap_or}
use Rattle.std.specs.Cmp.Lexicographic.{slice_cmp}
use Rattle.std.specs.Ordering.{nat_cmp}
use Rattle.std.specs.List.{cons_option, fold, sum_by}
use Rattle.std.specs.List.Sorted.{IsStrictlySortedBy}
use Rattle.std.specs.Map.{keys_of}
use Rattle.std.specs.Option.{option_map_or}
use Rattle.std.specs.BTreeMap.{insert_entry}
use Rattle.std.proofs.lemmas.Bool.{false≢true, le-leb}
use Rattle.std.proofs.lemmas.List.Sums.{sum_by-cons, sum_by-append}
use Rattle.zr_id.specs.Zid.{is_named}
use Rattle.zr_msg.specs.declared.decl.Kind.TheVariants as k
use Rattle.zr_msg.specs.declared.event.Event.{Event}
use Rattle.zr_msg.specs.declared.event.Event.TheVariants.{Down, From}
use Rattle.zr_msg.specs.declared.msg.Msg.{Msg}
use Rattle.zr_msg.specs.declared.msg.Msg.TheVariants.{Sub, Unsub, Token, Untoken, Able, Unable, Response}
use Rattle.zr_msg.specs.declared.peer.Role.TheVariants.{Client}
use Rattle.zr_pend_spec.specs.Held.{reply_weight, held_weight, most_held}
use Rattle.zr_node_spec.specs.Table.{able_kind}
use Rattle.zr_script_spec.specs.declared.command.Act.{Act}
use Rattle.zr_script_spec.specs.declared.command.Act.TheVariants as a
use Rattle.zr_world_spec.specs.World.{Tagged, ClientState, RouterState, EndState, End, Ends, WorldState, with_ends, with_router, router_of, end_of, end_cmp, is_end, with_end, put_end, changed, sent, with_wire, with_queue, broken, lifted, lowered, new_router, new_end}
use Rattle.zr_world_spec.specs.Acts.{outcome, weighing, heard, up_event, peer_of}
use Rattle.zr_world_spec.specs.Moments.{Numbered, Moment, beginning, went, onward}
use Rattle.zr_world_spec.specs.Sound.{AreUnique, IsSound}
use Rattle.zr_world_spec.proofs.Cases.{for_router, for_client, for_link, for_up, for_break, for_down, for_declare, for_undeclare, interest_says, uninterest_says, publish_says, get_says, reply_says, end_says, for_handle, for_take, for_mark, for_show}
use Rattle.zr_world_spec.proofs.Keyed.{there}
use Rattle.zr_world_spec.proofs.Ends.{ends, same_end, keys_with_end, sorted_put_end}
use Rattle.zr_world_spec.proofs.Lines.{refused_stays}
use Rattle.zr_guarantee.specs.Queries.{Saying, saying_in, sayings}
use Rattle.zr_guarantee.specs.Latest.{saying_weight}
use Rattle.zr_law_settled.proofs.Goes.{Goes, goes_first}
use Rattle.zr_law_settled.proofs.Spreading.{Name}
use Rattle.zr_law_numbers.specs.Rows.{AreOfLinks}
use Rattle.zr_law_numbers.proofs.Numbers.{AllGo, all_go, numbers_first}
use Rattle.zr_law_held.specs.Weights.{tagged_weight, waiting_weight, replies_weight, RepliesWeigh, RepliesHaveRoom}
use Rattle.zr_law_held.proofs.Sums.{total, total_has, total_set, total_insert, total_lighter, total_once}
use Rattle.zr_law_held.proofs.Carries.{came, event_carries}
use Rattle.zr_law_held.proofs.Heard.{msg_weight, tagged_weighs, held_in, heard_weighs}

-- what an act replies weighs
abbrev pub said_weight : ℕ → Act → ℕ
said_weight line act = option_map_or saying_weight (saying_in line act) 0

-- ---- ends

-- the weight of all that waits
abbrev all_wait : Ends → ℕ
all_wait es = total waiting_weight es

put_weighs : (es : Ends) (e : End) (s : EndState) → waiting_weight s ≡ 0 → all_wait (put_end es e s) ≤ all_wait es
put_weighs es e s none = by (is_some (end_of es e)) refl
  where
    by : (t : Bool) → is_some (end_of es e) ≡ t → all_wait (cond t (with_end es e s) (insert_entry end_cmp es e s)) ≤ all_wait es
    by true t = let c = there (end_of es e) t in omega (arith, total_set waiting_weight (is_end e) es c.0 s c.1, none)
    by false t = omega (arith, total_insert waiting_weight end_cmp es e s, none)

sent_weighs : (s : EndState) (msg : Msg) (tag : ℕ) → waiting_weight (sent s msg tag) ≡ waiting_weight s + msg_weight msg
sent_weighs s msg tag = omega (
  arith,
  sum_by-append tagged_weight s.wire (record { msg = msg; tag = tag } ∷ []),
  sum_by-cons tagged_weight (record { msg = msg; tag = tag }) [],
  tagged_weighs msg tag,
)

module _ (s : EndState) (msg : Msg) (tag : ℕ) (more : List Tagged) where
  popped_weighs : s.wire ≡ record { msg = msg; tag = tag } ∷ more → waiting_weight s ≡ waiting_weight (with_wire s more) + msg_weight msg
  popped_weighs front = omega (arith, ap (sum_by tagged_weight) front, sum_by-cons tagged_weight (record { msg = msg; tag = tag }) more, tagged_weighs msg tag)

  taken_weighs : s.queue ≡ record { msg = msg; tag = tag } ∷ more → waiting_weight s ≡ waiting_weight (with_queue s more) + msg_weight msg
  taken_weighs front = omega (arith, ap (sum_by tagged_weight) front, sum_by-cons tagged_weight (record { msg = msg; tag = tag }) more, tagged_weighs msg tag)

broken_weighs : (s : EndState) → waiting_weight (broken s) ≤ waiting_weight s
broken_weighs s = omega arith

lowered_weighs : (s : EndState) → waiting_weight (lowered s) ≤ waiting_weight s
lowered_weighs s = omega arith

changed_weighs : (es : Ends) (e : End) (change : EndState → EndState) → ((s : EndState) → waiting_weight (change s) ≤ waiting_weight s) → all_wait (changed es e change) ≤ all_wait es
changed_weighs es e change less = total_lighter waiting_weight (λ q. is_end e q) change less es

-- ---- acts

module _ (now : Moment) (g : Goes now.world) (rows : (x : Name) (r : RouterState) → router_of now.world.routers x ≡ Some r → AreOfLinks r.node) where
  abbrev w : WorldState
  w = now.world

  abbrev Adds : ℕ → Moment → Type 0
  Adds n next = IsSound next.world → replies_weight next.world ≤ replies_weight w + n

  -- a router hears of an event, where ends weigh as much as before but for what came
  hears : (v : WorldState) (x : Name) (r : RouterState) (event : Event) (tag : ℕ) → router_of w.routers x ≡ Some r → v.routers ≡ w.routers →
      IsStrictlySortedBy end_cmp (keys_of v.ends) → all_wait v.ends + came event ≤ all_wait w.ends →
      ((q : RouterState) → router_of (heard v x r event tag).routers x ≡ Some q → AreUnique q.node.links) → replies_weight (heard v x r event tag) ≤ replies_weight w + 0
  hears v x r event tag found same sorted less unique =
      let found' : router_of v.routers x ≡ Some r = ap (λ rs. router_of rs x) same ∙ found in
      omega (arith, heard_weighs v x r event tag found' sorted (event_carries r.node (rows x r found) event) unique, less, ap (total held_in) same)

  -- a client says something
  says : (n : ℕ) (name : Name) (msg : Msg) (s : ClientState) (e : EndState) → end_of w.ends (s.router, name) ≡ Some e →
      all_wait (with_end w.ends (s.router, name) (sent e msg n)) ≤ all_wait w.ends + msg_weight msg
  says n name msg s e at_end = omega (arith, total_set waiting_weight (is_end (s.router, name)) w.ends e (sent e msg n) at_end, sent_weighs e msg n)

  said : (n : ℕ) (name : Name) (msg : Msg) → msg_weight msg ≡ 0 → (s : ClientState) (e : EndState) → end_of w.ends (s.router, name) ≡ Some e →
      all_wait (with_end w.ends (s.router, name) (sent e msg n)) + total held_in w.routers ≤ replies_weight w + 0
  said n name msg none s e at_end = omega (arith, says n name msg s e at_end, none)

  heavier : (x : Name) (key : List ℕ) (r : RouterState) → router_of w.routers x ≡ Some r → total held_in (with_router w.routers x (weighing r key)) ≡ total held_in w.routers
  heavier x key r found = omega (arith, total_set held_in (is_named x) w.routers r (weighing r key) found)

  weighed : (n : ℕ) (name : Name) (msg : Msg) → msg_weight msg ≡ 0 → (key : List ℕ) (s : ClientState) (e : EndState) → end_of w.ends (s.router, name) ≡ Some e → (r : RouterState) → router_of w.routers s.router ≡ Some r →
      all_wait (with_end w.ends (s.router, name) (sent e msg n)) + total held_in (with_router w.routers s.router (weighing r key)) ≤ replies_weight w + 0
  weighed n name msg none key s e at_end r found = omega (arith, says n name msg s e at_end, none, heavier s.router key r found)

  act_adds : (line : ℕ) (act : Act) → IfSome (went now (outcome w line act)) (Adds (said_weight line act))
  unfolding outcome
  act_adds line (a.Router id) = for_router now (Adds 0) id (λ free room sound. omega (arith, total_insert held_in (slice_cmp nat_cmp) w.routers id (new_router id)))
  act_adds line (a.Client id router) = for_client now (Adds 0) line id router (λ r found free room taken sound.
      hears (with_ends w (put_end w.ends (router, id) (lifted (new_end 1)))) router r (up_event r (record { id = id; role = Client; weight = 1 })) line found refl
      (sorted_put_end w.ends (router, id) (lifted (new_end 1)) g.sound.in_order) (omega (arith, put_weighs w.ends (router, id) (lifted (new_end 1)) refl)) (λ q f. sound.unique router q f))
  act_adds line (a.Link one other weight) = for_link now (Adds 0) one other weight (λ apart r found q found' new room sound.
      omega (arith, put_weighs w.ends (one, other) (new_end weight) refl, put_weighs (put_end w.ends (one, other) (new_end weight)) (other, one) (new_end weight) refl))
  act_adds line (a.Up router name) = for_up now (Adds 0) line router name (λ r found there s at_end unbroken down taken sound.
      hears (with_ends w (with_end w.ends (router, name) (lifted s))) router r (up_event r (peer_of w name s.weight)) line found refl
      (subst (IsStrictlySortedBy end_cmp) (sym (keys_with_end w.ends (router, name) (lifted s))) g.sound.in_order)
      (omega (arith, total_set waiting_weight (is_end (router, name)) w.ends s (lifted s) at_end)) (λ q f. sound.unique router q f))
  act_adds line (a.Break router name) = for_break now (Adds 0) router name (λ r found there s at_end unbroken sound.
      omega (arith, changed_weighs w.ends (router, name) broken broken_weighs, changed_weighs (changed w.ends (router, name) broken) (name, router) broken broken_weighs))
  act_adds line (a.Down router name) = for_down now (Adds 0) line router name (λ r found there s at_end up cut l number taken sound.
      let v : WorldState = heard w router r (Down l) line in
      omega (arith, hears w router r (Down l) line found refl g.sound.in_order (omega arith) (λ q f. sound.unique router q f), changed_weighs v.ends (router, name) lowered lowered_weighs))
  act_adds line (a.Sub client id key) = for_declare now (Adds 0) line client k.Sub id key (Sub id key) (λ s found fresh e at_end unbroken r there weighs sound. weighed line client (Sub id key) refl key s e at_end r there)
  act_adds line (a.Unsub client id) = for_undeclare now (Adds 0) line client k.Sub id (Unsub id) (λ s found known e at_end unbroken sound. said line client (Unsub id) refl s e at_end)
  act_adds line (a.Token client id key) = for_declare now (Adds 0) line client k.Token id key (Token id key) (λ s found fresh e at_end unbroken r there weighs sound. weighed line client (Token id key) refl key s e at_end r there)
  act_adds line (a.Untoken client id) = for_undeclare now (Adds 0) line client k.Token id (Untoken id) (λ s found known e at_end unbroken sound. said line client (Untoken id) refl s e at_end)
  act_adds line (a.Able client id key complete) = for_declare now (Adds 0) line client (able_kind complete) id key (Able id key complete) (λ s found fresh e at_end unbroken r there weighs sound. weighed line client (Able id key complete) refl key s e at_end r there)
  act_adds line (a.Unable client id) = for_undeclare now (Adds 0) line client k.Able id (Unable id) (λ s found known e at_end unbroken sound. said line client (Unable id) refl s e at_end)
  act_adds line (a.Interest client id mode kinds key aggregate) = interest_says now (Adds 0) line client id mode kinds key aggregate (λ s found e at_end unbroken clients same sound. said line client _ refl s e at_end)
      (λ s found e at_end unbroken r there room clients same sound. weighed line client _ refl (unwrap_or key []) s e at_end r there)
  act_adds line (a.Uninterest client id) = uninterest_says now (Adds 0) line client id (λ s found e at_end unbroken clients same sound. said line client _ refl s e at_end)
  act_adds line (a.Publish client content) = publish_says now (Adds 0) line client content (λ s found e at_end unbroken clients same sound. said line client _ refl s e at_end)
  act_adds line (a.Get client number target content) = get_says now (Adds 0) line client number target content (λ s found e at_end unbroken clients same sound. said line client _ refl s e at_end)
  act_adds line (a.Reply client number content) = reply_says now (Adds (reply_weight content)) line client number content (λ s found e at_end unbroken clients same sound.
      omega (arith, says line client (Response number content) s e at_end, sum_by-cons reply_weight content []))
  act_adds line (a.End client number) = end_says now (Adds 0) line client number (λ s found e at_end unbroken clients same sound. said line client _ refl s e at_end)
  act_adds line (a.Handle router from) = for_handle now (Adds 0) router from (λ r found there s at_end up msg tag xs front l number taken sound.
      hears (with_ends w (with_end w.ends (router, from) (with_wire s xs))) router r (From l msg) tag found refl
      (subst (IsStrictlySortedBy end_cmp) (sym (keys_with_end w.ends (router, from) (with_wire s xs))) g.sound.in_order)
      (omega (arith, total_set waiting_weight (is_end (router, from)) w.ends s (with_wire s xs) at_end, popped_weighs s msg tag xs front)) (λ q f. sound.unique router q f))
  act_adds line (a.Take router to) = for_take now (Adds 0) router to (λ r found there s at_end up unbroken msg tag xs front sound.
      let es : Ends = with_end w.ends (router, to) (with_queue s xs) in
      let sorted : IsStrictlySortedBy end_cmp (keys_of es) = subst (IsStrictlySortedBy end_cmp) (sym (keys_with_end w.ends (router, to) (with_queue s xs))) g.sound.in_order in
      omega (
        arith,
        total_set waiting_weight (is_end (router, to)) w.ends s (with_queue s xs) at_end,
        taken_weighs s msg tag xs front,
        total_once waiting_weight end_cmp same_end (λ e. ends.refl e) (to, router) (λ e. sent e msg tag) (msg_weight msg) (λ e. omega (arith, sent_weighs e msg tag)) es sorted,
      ))
  act_adds line a.Mark = for_mark now (Adds 0) line (λ settled joined sound. omega arith)
  act_adds line (a.Show router) = for_show now (Adds 0) router (λ r found sound. omega arith)

act_weighs : (now : Moment) → AllGo now → (line : ℕ) (act : Act) → IfSome (went now (outcome now.world line act)) (λ next. replies_weight next.world ≤ replies_weight now.world + said_weight line act)
act_weighs now h line act = by (went now (outcome now.world line act)) (all_go now line act h) (act_adds now h.0 h.1.1.tables line act)
  where
    by : (o : Option Moment) → IfSome o AllGo → IfSome o (λ next. IsSound next.world → replies_weight next.world ≤ replies_weight now.world + said_weight line act) →
        IfSome o (λ next. replies_weight next.world ≤ replies_weight now.world + said_weight line act)
    by None all adds = tt
    by (Some next) all adds = adds all.0.sound

-- ---- moments

said_cons : (x : Numbered) (acts : List Numbered) → sum_by saying_weight (sayings (x ∷ acts)) ≡ said_weight x.0 x.1 + sum_by saying_weight (sayings acts)
said_cons x acts = by (saying_in x.0 x.1)
  where
    by : (o : Option Saying) → sum_by saying_weight (cons_option o (sayings acts)) ≡ option_map_or saying_weight o 0 + sum_by saying_weight (sayings acts)
    by None = omega arith
    by (Some s) = sum_by-cons saying_weight s (sayings acts)

acts_weigh : (acts : List Numbered) (now m : Moment) → AllGo now → fold onward (Some now) acts ≡ Some m → replies_weight m.world ≤ replies_weight now.world + sum_by saying_weight (sayings acts)
acts_weigh [] now m h e = let same : now ≡ m = cc in omega (arith, ap (λ (z : Moment). replies_weight z.world) same)
acts_weigh (x ∷ acts) now m h e = by (went now (outcome now.world x.0 x.1)) (all_go now x.0 x.1 h) (act_weighs now h x.0 x.1) e (λ next. acts_weigh acts next m)
  where
    by : (o : Option Moment) → IfSome o AllGo → IfSome o (λ next. replies_weight next.world ≤ replies_weight now.world + said_weight x.0 x.1) → fold onward o acts ≡ Some m →
        ((next : Moment) → AllGo next → fold onward (Some next) acts ≡ Some m → replies_weight m.world ≤ replies_weight next.world + sum_by saying_weight (sayings acts)) →
        replies_weight m.world ≤ replies_weight now.world + sum_by saying_weight (sayings (x ∷ acts))
    by None all adds e ih = absurd (false≢true (ap is_some (sym (refused_stays acts) ∙ e)))
    by (Some next) all adds e ih = omega (arith, adds, ih next all e, said_cons x acts)

pub replies_weigh : RepliesWeigh
replies_weigh acts m reaches = omega (arith, acts_weigh acts beginning m (goes_first, numbers_first) reaches)

pub replies_have_room : RepliesHaveRoom
replies_have_room acts m reaches fits x y r s number tag content more found at_end front =
    let weighs = replies_weigh acts m reaches in
    let held = total_has held_in (is_named x) m.world.routers r found in
    let waits = total_has waiting_weight (is_end (x, y)) m.world.ends s at_end in
    let one = popped_weighs s (Response number content) tag more front in
    le-leb (held_weight r.node.held + reply_weight content) most_held (omega (arith, weighs, held, waits, one, fits, sum_by-cons reply_weight content []))
