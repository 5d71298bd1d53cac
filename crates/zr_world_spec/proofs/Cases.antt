-- What each act of a world comes to where it is accepted. To show something of the moment after an act it is enough to
-- show it there: a refused act leads to no moment. Each lemma hands on what the act looked up, with its equation.
use Rattle.std.proofs.Common.{◌≡◌, ℕ, Bool, true, false, cond, not, List, [], ◌∷◌, ◌++◌, length, Option, Some, None, Result, Ok, Err, refl, sym, ap, subst}
use Rattle.std.specs.Prelude.{◌+◌, nat_le, is_some, is_ok, unwrap_or, IfSome}
use Rattle.std.specs.Option.{option_or}
use Rattle.std.specs.Ordering.{nat_cmp}
use Rattle.std.specs.Cmp.Lexicographic.{slice_cmp}
use Rattle.std.specs.BTreeMap.{insert_entry}
use Rattle.std.proofs.lemmas.Bool.{false≢true, or_parts}
use Rattle.zr_id.specs.Zid.{is_named}
use Rattle.zr_id.specs.declared.link.LinkNo.{LinkNo}
use Rattle.zr_msg.specs.declared.content.Parts.{Parts}
use Rattle.zr_msg.specs.declared.decl.Kind.{Kind}
use Rattle.zr_msg.specs.declared.error.NodeError.{NodeError}
use Rattle.zr_msg.specs.declared.msg.Msg.{Msg}
use Rattle.zr_msg.specs.declared.msg.Msg.TheVariants as m
use Rattle.zr_msg.specs.declared.msg.Kinds.{Kinds}
use Rattle.zr_msg.specs.declared.msg.Target.{Target}
use Rattle.zr_msg.specs.Extras.{no_extras}
use Rattle.zr_msg.specs.declared.event.Event.{Event}
use Rattle.zr_msg.specs.declared.event.Event.TheVariants.{Down, From}
use Rattle.zr_msg.specs.declared.peer.Role.TheVariants as role
use Rattle.zr_script_spec.specs.declared.error.ScriptError.{ScriptError}
use Rattle.zr_script_spec.specs.declared.error.ScriptError.TheVariants.{NotLinked, Limit}
use Rattle.zr_script_spec.specs.declared.report.ReportLine.TheVariants as line
use Rattle.zr_script_spec.specs.declared.command.Mode.{Mode}
use Rattle.zr_script_spec.specs.Mode.{is_current, is_future}
use Rattle.zr_node_spec.specs.Tables.{link_to}
use Rattle.zr_msg.specs.declared.peer.LinkPeer.{LinkPeer}
use Rattle.zr_node_spec.specs.Table.{refuses}
use Rattle.zr_script_spec.specs.Step.{◌>>=◌}
use Rattle.zr_world_spec.specs.World.{Tagged, ClientState, RouterState, EndState, Routers, Clients, WorldState, with_routers, with_clients, with_ends, new_router, new_client, new_end, router_of, client_of, with_router, with_client, is_taken, end_of, with_end, put_end, most_routers, most_clients, most_links, most_weight, most_queries, weight_of, is_in_place, links_in_place, sent, with_wire, with_queue, broken, lifted, lowered, changed, is_settled}
use Rattle.zr_world_spec.specs.Joined.{is_joined}
use Rattle.zr_world_spec.specs.Acts.{Outcome, unless, router_at, client_at, end_at, oldest, has_number, has_id, weighing, weighed, declaring, undeclaring, wanting, unwanting, asking, ending, received, refuses_of, heard, heard_by, hears, peer_of, up_event, number_at, number_to, shown, client_sends, router_step, client_step, link_step, up_step, break_step, down_step, declare_step, undeclare_step, keeps_interest, interest_step, uninterest_step, publish_step, get_step, reply_step, end_step, handle_step, take_step, mark_step, show_step}
use Rattle.zr_world_spec.specs.Moments.{Moment, went}
use Rattle.zr_world_spec.proofs.Clients.{SameClients, same_clients, same_with_client}

-- ---- the worlds that acts lead to

-- a client came, and its router has heard that the link to it is up
abbrev pub w_client : WorldState → ℕ → List ℕ → List ℕ → RouterState → WorldState
w_client w n id router r =
    let v : WorldState = heard (with_ends w (put_end w.ends (router, id) (lifted (new_end 1)))) router r (up_event r (record { id = id; role = role.Client; weight = 1 })) n in
    with_clients v (insert_entry (slice_cmp nat_cmp) w.clients id (new_client router))

abbrev pub w_link : WorldState → List ℕ → List ℕ → ℕ → WorldState
w_link w one other weight = with_ends w (put_end (put_end w.ends (one, other) (new_end weight)) (other, one) (new_end weight))

abbrev pub w_up : WorldState → ℕ → List ℕ → List ℕ → RouterState → EndState → WorldState
w_up w n router name r s = heard (with_ends w (with_end w.ends (router, name) (lifted s))) router r (up_event r (peer_of w name s.weight)) n

abbrev pub w_break : WorldState → List ℕ → List ℕ → WorldState
w_break w router name = with_ends w (changed (changed w.ends (router, name) broken) (name, router) broken)

abbrev pub w_down : WorldState → ℕ → List ℕ → List ℕ → RouterState → LinkNo → WorldState
w_down w n router name r l = let v : WorldState = heard w router r (Down l) n in with_ends v (changed v.ends (router, name) lowered)

-- a client's message is on the wire
abbrev pub w_sent : WorldState → ℕ → List ℕ → ClientState → EndState → Msg → WorldState
w_sent w n name s e msg = with_ends w (with_end w.ends (s.router, name) (sent e msg n))

-- it declares something, or takes it back
abbrev pub w_declare : WorldState → ℕ → List ℕ → Kind → ℕ → List ℕ → Msg → ClientState → EndState → RouterState → WorldState
w_declare w n name kind id key msg s e r =
    let v : WorldState = w_sent w n name s e msg in
    with_clients (with_routers v (with_router w.routers s.router (weighing r key))) (with_client w.clients name (declaring s kind id))

abbrev pub w_undeclare : WorldState → ℕ → List ℕ → Kind → ℕ → Msg → ClientState → EndState → WorldState
w_undeclare w n name kind id msg s e = with_clients (w_sent w n name s e msg) (with_client w.clients name (undeclaring s kind id))

-- it asks to be told what others declare, which weighs on its router from then on
abbrev pub w_weighed : WorldState → ℕ → List ℕ → List ℕ → Msg → ClientState → EndState → RouterState → Clients → WorldState
w_weighed w n name key msg s e r clients = with_clients (with_routers (w_sent w n name s e msg) (with_router w.routers s.router (weighing r key))) clients

abbrev pub w_handle : WorldState → List ℕ → List ℕ → RouterState → EndState → LinkNo → Msg → ℕ → List Tagged → WorldState
w_handle w router from r s l msg tag xs = heard (with_ends w (with_end w.ends (router, from) (with_wire s xs))) router r (From l msg) tag

abbrev pub w_take : WorldState → List ℕ → List ℕ → EndState → Msg → ℕ → List Tagged → WorldState
w_take w router to s msg tag xs =
    with_clients (with_ends w (changed (with_end w.ends (router, to) (with_queue s xs)) (to, router) (λ e. sent e msg tag))) (received w.clients to msg (client_of w.clients to))

-- ---- the moments

abbrev pub on_router : Moment → List ℕ → Moment
on_router now id = record { world = with_routers now.world (insert_entry (slice_cmp nat_cmp) now.world.routers id (new_router id)); report = now.report ++ [] }

abbrev pub on_client : Moment → ℕ → List ℕ → List ℕ → RouterState → Moment
on_client now n id router r = record { world = w_client now.world n id router r; report = now.report ++ [] }

abbrev pub on_link : Moment → List ℕ → List ℕ → ℕ → Moment
on_link now one other weight = record { world = w_link now.world one other weight; report = now.report ++ [] }

abbrev pub on_up : Moment → ℕ → List ℕ → List ℕ → RouterState → EndState → Moment
on_up now n router name r s = record { world = w_up now.world n router name r s; report = now.report ++ [] }

abbrev pub on_break : Moment → List ℕ → List ℕ → Moment
on_break now router name = record { world = w_break now.world router name; report = now.report ++ [] }

abbrev pub on_down : Moment → ℕ → List ℕ → List ℕ → RouterState → LinkNo → Moment
on_down now n router name r l = record { world = w_down now.world n router name r l; report = now.report ++ [] }

abbrev pub on_declare : Moment → ℕ → List ℕ → Kind → ℕ → List ℕ → Msg → ClientState → EndState → RouterState → Moment
on_declare now n name kind id key msg s e r = record { world = w_declare now.world n name kind id key msg s e r; report = now.report ++ [] }

abbrev pub on_undeclare : Moment → ℕ → List ℕ → Kind → ℕ → Msg → ClientState → EndState → Moment
on_undeclare now n name kind id msg s e = record { world = w_undeclare now.world n name kind id msg s e; report = now.report ++ [] }

abbrev pub on_publish : Moment → ℕ → List ℕ → Parts → ClientState → EndState → Moment
on_publish now n name content s e = record { world = w_sent now.world n name s e (m.Push None content); report = now.report ++ [] }

-- a client says something, and its interests, queries or requests may be others then
abbrev pub on_said : Moment → ℕ → List ℕ → Msg → ClientState → EndState → Clients → Moment
on_said now n name msg s e clients = record { world = with_clients (w_sent now.world n name s e msg) clients; report = now.report ++ [] }

-- and what it says may weigh on its router
abbrev pub on_weighed : Moment → ℕ → List ℕ → List ℕ → Msg → ClientState → EndState → RouterState → Clients → Moment
on_weighed now n name key msg s e r clients = record { world = w_weighed now.world n name key msg s e r clients; report = now.report ++ [] }

abbrev pub on_handle : Moment → List ℕ → List ℕ → RouterState → EndState → LinkNo → Msg → ℕ → List Tagged → Moment
on_handle now router from r s l msg tag xs = record { world = w_handle now.world router from r s l msg tag xs; report = now.report ++ line.Handled router from msg tag ∷ [] }

abbrev pub on_take : Moment → List ℕ → List ℕ → EndState → Msg → ℕ → List Tagged → Moment
on_take now router to s msg tag xs = record { world = w_take now.world router to s msg tag xs; report = now.report ++ line.Taken router to msg tag ∷ [] }

abbrev pub on_mark : Moment → ℕ → Moment
on_mark now n = record { world = now.world; report = now.report ++ line.Mark n ∷ [] }

abbrev pub on_show : Moment → List ℕ → RouterState → Moment
on_show now router r = record { world = now.world; report = now.report ++ line.Show router ∷ shown r.node }

-- ---- what a reading that is not refused has read

pub router_found : (o : Option RouterState) (r : RouterState) → router_at o ≡ Ok r → o ≡ Some r
router_found None r h = absurd (false≢true (ap is_ok h))
router_found (Some r') r h = cc

pub client_found : (o : Option ClientState) (s : ClientState) → client_at o ≡ Ok s → o ≡ Some s
client_found None s h = absurd (false≢true (ap is_ok h))
client_found (Some s') s h = cc

pub end_found : (o : Option EndState) (s : EndState) → end_at o ≡ Ok s → o ≡ Some s
end_found None s h = absurd (false≢true (ap is_ok h))
end_found (Some s') s h = cc

pub oldest_found : (ws : List Tagged) (x : Tagged × List Tagged) → oldest ws ≡ Ok x → ws ≡ x.0 ∷ x.1
oldest_found [] x h = absurd (false≢true (ap is_ok h))
oldest_found (y ∷ ys) x h = cc

-- the link of a number to a neighbour
pub number_found : (r : RouterState) (name : List ℕ) (l : LinkNo) → number_to r name ≡ Ok l → (k : LinkPeer) × (link_to r.node.links name ≡ Some k) × (k.link ≡ l)
number_found r name l h = by (link_to r.node.links name) h
  where
    by : (o : Option LinkPeer) → number_at o ≡ Ok l → (k : LinkPeer) × (o ≡ Some k) × (k.link ≡ l)
    by None h = absurd (false≢true (ap is_ok h))
    by (Some k) h = (k, refl, cc)

weighed_found : (routers : Routers) (name key : List ℕ) (o : Option RouterState) (rs : Routers) → weighed routers name key o ≡ Ok rs →
    (r : RouterState) × (o ≡ Some r) × (rs ≡ with_router routers name (weighing r key)) × (nat_le (r.weight + weight_of key) most_weight ≡ true)
weighed_found routers name key None rs h = absurd (false≢true (ap is_ok h))
weighed_found routers name key (Some r) rs h = by (nat_le (r.weight + weight_of key) most_weight) refl h
  where
    by : (b : Bool) → nat_le (r.weight + weight_of key) most_weight ≡ b → cond b (Ok (with_router routers name (weighing r key))) (Err Limit) ≡ Ok rs →
        (r' : RouterState) × (Some r ≡ Some r') × (rs ≡ with_router routers name (weighing r' key)) × (nat_le (r'.weight + weight_of key) most_weight ≡ true)
    by true room k = (r, refl, cc, room)
    by false room k = absurd (false≢true (ap is_ok k))

-- a name that is not taken is that of no router and of no client
pub free_name : (w : WorldState) (name : List ℕ) → is_taken w name ≡ false → (is_some (router_of w.routers name) ≡ false) × (is_some (client_of w.clients name) ≡ false)
free_name w name h = or_parts (is_some (router_of w.routers name)) (is_some (client_of w.clients name)) h

-- an event that a router with its clients doesn't refuse isn't refused by the router
pub none_first : (a b : Option NodeError) → option_or a b ≡ None → a ≡ None
none_first None b h = refl
none_first (Some e) b h = h

-- ---- the cases

module _ (now : Moment) (Q : Moment → Type 0) where
  abbrev w : WorldState
  w = now.world

  -- an act that reads first
  for_bind : {A : Type 0} (a : Result A ScriptError) (f : A → Outcome) → ((x : A) → a ≡ Ok x → IfSome (went now (f x)) Q) → IfSome (went now (a >>= f)) Q
  for_bind (Ok x) f step = step x refl
  for_bind (Err e) f step = tt

  -- a test that an act has to pass
  for_unless : (b : Bool) (e : ScriptError) (f : Unit {0} → Outcome) → (b ≡ false → IfSome (went now (f tt)) Q) → IfSome (went now (unless b e >>= f)) Q
  for_unless true e f step = tt
  for_unless false e f step = step refl

  -- and one that isn't to fail
  for_test : (b : Bool) (e : ScriptError) (f : Unit {0} → Outcome) → (b ≡ true → IfSome (went now (f tt)) Q) → IfSome (went now (unless (not b) e >>= f)) Q
  for_test true e f step = step refl
  for_test false e f step = tt

  -- a router that hears of an event
  for_hears : (v : WorldState) (x : List ℕ) (r : RouterState) (event : Event) (tag : ℕ) (f : WorldState → Outcome) →
      (refuses r.node event ≡ None → IfSome (went now (f (heard v x r event tag))) Q) → IfSome (went now (hears v x r event tag >>= f)) Q
  for_hears v x r event tag f step = by (refuses_of r event) refl
    where
      by : (o : Option NodeError) → refuses_of r event ≡ o → IfSome (went now (heard_by v x r event tag o >>= f)) Q
      by None e = step (none_first (refuses r.node event) _ e)
      by (Some k) e = tt

  -- a client that sends
  for_client_sends : (n : ℕ) (name : List ℕ) (s : ClientState) (msg : Msg) (f : WorldState → Outcome) →
      ((e : EndState) → end_of w.ends (s.router, name) ≡ Some e → e.unbroken ≡ true → IfSome (went now (f (w_sent w n name s e msg))) Q) →
      IfSome (went now (client_sends w n name s msg >>= f)) Q
  unfolding client_sends
  for_client_sends n name s msg f step = by (end_of w.ends (s.router, name)) refl
    where
      at : (e : EndState) (b : Bool) → e.unbroken ≡ b → end_of w.ends (s.router, name) ≡ Some e →
          IfSome (went now ((unless (not b) NotLinked >>= (λ u. Ok (w_sent w n name s e msg))) >>= f)) Q
      at e true u there = step e there u
      at e false u there = tt

      by : (o : Option EndState) → end_of w.ends (s.router, name) ≡ o →
          IfSome (went now ((end_at o >>= (λ e. unless (not e.unbroken) NotLinked >>= (λ u. Ok (w_sent w n name s e msg)))) >>= f)) Q
      by None there = tt
      by (Some e) there = at e e.unbroken refl there

  pub for_router : (id : List ℕ) → (is_taken w id ≡ false → nat_le most_routers (length w.routers) ≡ false → Q (on_router now id)) →
      IfSome (went now (router_step w id)) Q
  unfolding router_step
  for_router id step = for_unless (is_taken w id) _ _ (λ free. for_unless (nat_le most_routers (length w.routers)) _ _ (λ room. step free room))

  pub for_client : (n : ℕ) (id router : List ℕ) →
      ((r : RouterState) → router_of w.routers router ≡ Some r → is_taken w id ≡ false → nat_le most_clients (length w.clients) ≡ false →
      refuses r.node (up_event r (record { id = id; role = role.Client; weight = 1 })) ≡ None → Q (on_client now n id router r)) →
      IfSome (went now (client_step w n id router)) Q
  unfolding client_step
  for_client n id router step =
      for_bind (router_at (router_of w.routers router)) _ (λ r er. for_unless (is_taken w id) _ _ (λ free. for_unless (nat_le most_clients (length w.clients)) _ _ (λ room.
      for_hears (with_ends w (put_end w.ends (router, id) (lifted (new_end 1)))) router r (up_event r (record { id = id; role = role.Client; weight = 1 })) n came (λ taken.
      step r (router_found (router_of w.routers router) r er) free room taken))))
    where
      came : WorldState → Outcome
      came v = Ok ([], with_clients v (insert_entry (slice_cmp nat_cmp) v.clients id (new_client router)))

  pub for_link : (one other : List ℕ) (weight : ℕ) →
      (is_named one other ≡ false → (r : RouterState) → router_of w.routers one ≡ Some r → (q : RouterState) → router_of w.routers other ≡ Some q →
      is_in_place w.ends (one, other) ≡ false → nat_le most_links (length (links_in_place w)) ≡ false → Q (on_link now one other weight)) →
      IfSome (went now (link_step w one other weight)) Q
  unfolding link_step
  for_link one other weight step =
      for_unless (is_named one other) _ _ (λ apart. for_bind (router_at (router_of w.routers one)) _ (λ r er. for_bind (router_at (router_of w.routers other)) _ (λ q eq.
      for_unless (is_in_place w.ends (one, other)) _ _ (λ new. for_unless (nat_le most_links (length (links_in_place w))) _ _ (λ room.
      step apart r (router_found (router_of w.routers one) r er) q (router_found (router_of w.routers other) q eq) new room)))))

  pub for_up : (n : ℕ) (router name : List ℕ) →
      ((r : RouterState) → router_of w.routers router ≡ Some r → is_taken w name ≡ true → (s : EndState) → end_of w.ends (router, name) ≡ Some s → s.unbroken ≡ true → s.up ≡ false →
      refuses r.node (up_event r (peer_of w name s.weight)) ≡ None → Q (on_up now n router name r s)) →
      IfSome (went now (up_step w n router name)) Q
  unfolding up_step
  for_up n router name step =
      for_bind (router_at (router_of w.routers router)) _ (λ r er. for_test (is_taken w name) _ _ (λ there. for_bind (end_at (end_of w.ends (router, name))) _ (λ s es.
      for_test s.unbroken _ _ (λ unbroken. for_unless s.up _ _ (λ down.
      for_hears (with_ends w (with_end w.ends (router, name) (lifted s))) router r (up_event r (peer_of w name s.weight)) n _ (λ taken.
      step r (router_found (router_of w.routers router) r er) there s (end_found (end_of w.ends (router, name)) s es) unbroken down taken))))))

  pub for_break : (router name : List ℕ) →
      ((r : RouterState) → router_of w.routers router ≡ Some r → is_taken w name ≡ true → (s : EndState) → end_of w.ends (router, name) ≡ Some s → s.unbroken ≡ true → Q (on_break now router name)) →
      IfSome (went now (break_step w router name)) Q
  unfolding break_step
  for_break router name step =
      for_bind (router_at (router_of w.routers router)) _ (λ r er. for_test (is_taken w name) _ _ (λ there. for_bind (end_at (end_of w.ends (router, name))) _ (λ s es.
      for_test s.unbroken _ _ (λ unbroken. step r (router_found (router_of w.routers router) r er) there s (end_found (end_of w.ends (router, name)) s es) unbroken))))

  pub for_down : (n : ℕ) (router name : List ℕ) →
      ((r : RouterState) → router_of w.routers router ≡ Some r → is_taken w name ≡ true → (s : EndState) → end_of w.ends (router, name) ≡ Some s → s.up ≡ true → s.unbroken ≡ false →
      (l : LinkNo) → number_to r name ≡ Ok l → refuses r.node (Down l) ≡ None → Q (on_down now n router name r l)) →
      IfSome (went now (down_step w n router name)) Q
  unfolding down_step
  for_down n router name step =
      for_bind (router_at (router_of w.routers router)) _ (λ r er. for_test (is_taken w name) _ _ (λ there. for_bind (end_at (end_of w.ends (router, name))) _ (λ s es.
      for_test s.up _ _ (λ up. for_unless s.unbroken _ _ (λ cut. for_bind (number_to r name) _ (λ l el. for_hears w router r (Down l) n _ (λ taken.
      step r (router_found (router_of w.routers router) r er) there s (end_found (end_of w.ends (router, name)) s es) up cut l el taken)))))))

  pub for_declare : (n : ℕ) (name : List ℕ) (kind : Kind) (id : ℕ) (key : List ℕ) (msg : Msg) →
      ((s : ClientState) → client_of w.clients name ≡ Some s → has_id s kind id ≡ false → (e : EndState) → end_of w.ends (s.router, name) ≡ Some e → e.unbroken ≡ true →
      (r : RouterState) → router_of w.routers s.router ≡ Some r → nat_le (r.weight + weight_of key) most_weight ≡ true → Q (on_declare now n name kind id key msg s e r)) →
      IfSome (went now (declare_step w n name kind id key msg)) Q
  unfolding declare_step
  for_declare n name kind id key msg step =
      for_bind (client_at (client_of w.clients name)) _ (λ s es. for_unless (has_id s kind id) _ _ (λ fresh. for_client_sends n name s msg _ (λ e there unbroken.
      for_bind (weighed w.routers s.router key (router_of w.routers s.router)) _ (λ rs er.
      let found = weighed_found w.routers s.router key (router_of w.routers s.router) rs er in
      subst (λ (z : Routers). Q (declared_moment s e z)) (sym found.2) (step s (client_found (client_of w.clients name) s es) fresh e there unbroken found.0 found.1 found.3)))))
    where
      declared_moment : ClientState → EndState → Routers → Moment
      declared_moment s e z = record {
        world = with_clients (with_routers (w_sent w n name s e msg) z) (with_client w.clients name (declaring s kind id));
        report = now.report ++ [];
      }

  pub for_undeclare : (n : ℕ) (name : List ℕ) (kind : Kind) (id : ℕ) (msg : Msg) →
      ((s : ClientState) → client_of w.clients name ≡ Some s → has_id s kind id ≡ true → (e : EndState) → end_of w.ends (s.router, name) ≡ Some e → e.unbroken ≡ true →
      Q (on_undeclare now n name kind id msg s e)) →
      IfSome (went now (undeclare_step w n name kind id msg)) Q
  unfolding undeclare_step
  for_undeclare n name kind id msg step =
      for_bind (client_at (client_of w.clients name)) _ (λ s es. for_test (has_id s kind id) _ _ (λ known. for_client_sends n name s msg _ (λ e there unbroken.
      step s (client_found (client_of w.clients name) s es) known e there unbroken)))

  -- an interest weighs where it is in what is declared later, and goes on then
  pub for_interest : (n : ℕ) (name : List ℕ) (id : ℕ) (mode : Mode) (kinds : Kinds) (key : Option (List ℕ)) (aggregate : Bool) →
      ((s : ClientState) → client_of w.clients name ≡ Some s → has_number s.interests id ≡ false → (e : EndState) → end_of w.ends (s.router, name) ≡ Some e → e.unbroken ≡ true →
      is_future mode ≡ false → Q (on_said now n name (m.Interest id (is_current mode) (is_future mode) kinds key aggregate) s e w.clients)) →
      ((s : ClientState) → client_of w.clients name ≡ Some s → has_number s.interests id ≡ false → (e : EndState) → end_of w.ends (s.router, name) ≡ Some e → e.unbroken ≡ true →
      is_future mode ≡ true → (r : RouterState) → router_of w.routers s.router ≡ Some r → nat_le (r.weight + weight_of (unwrap_or key [])) most_weight ≡ true →
      Q (on_weighed now n name (unwrap_or key []) (m.Interest id (is_current mode) (is_future mode) kinds key aggregate) s e r (with_client w.clients name (wanting s id)))) →
      IfSome (went now (interest_step w n name id mode kinds key aggregate)) Q
  unfolding interest_step
  for_interest n name id mode kinds key aggregate once lasting =
      for_bind (client_at (client_of w.clients name)) _ (λ s es. for_unless (has_number s.interests id) _ _ (λ fresh. for_client_sends n name s msg (goes s) (λ e there unbroken.
      by (is_future mode) refl s (client_found (client_of w.clients name) s es) fresh e there unbroken)))
    where
      msg : Msg
      msg = m.Interest id (is_current mode) (is_future mode) kinds key aggregate

      goes : ClientState → WorldState → Outcome
      goes s v = cond (is_future mode) (keeps_interest v name s id (unwrap_or key [])) (Ok ([], v))

      wanted_moment : ClientState → EndState → Routers → Moment
      wanted_moment s e z = record {
        world = with_clients (with_routers (w_sent w n name s e msg) z) (with_client w.clients name (wanting s id));
        report = now.report ++ [];
      }

      by : (b : Bool) → is_future mode ≡ b → (s : ClientState) → client_of w.clients name ≡ Some s → has_number s.interests id ≡ false → (e : EndState) →
          end_of w.ends (s.router, name) ≡ Some e → e.unbroken ≡ true →
          IfSome (went now (cond b (keeps_interest (w_sent w n name s e msg) name s id (unwrap_or key [])) (Ok ([], w_sent w n name s e msg)))) Q
      by false passing s found fresh e there unbroken = once s found fresh e there unbroken passing
      by true lasts s found fresh e there unbroken =
          for_bind (weighed w.routers s.router (unwrap_or key []) (router_of w.routers s.router)) _ (λ rs er.
          let room = weighed_found w.routers s.router (unwrap_or key []) (router_of w.routers s.router) rs er in
          subst (λ (z : Routers). Q (wanted_moment s e z)) (sym room.2) (lasting s found fresh e there unbroken lasts room.0 room.1 room.3))

  pub for_uninterest : (n : ℕ) (name : List ℕ) (id : ℕ) →
      ((s : ClientState) → client_of w.clients name ≡ Some s → has_number s.interests id ≡ true → (e : EndState) → end_of w.ends (s.router, name) ≡ Some e → e.unbroken ≡ true →
      Q (on_said now n name (m.EndInterest id) s e (with_client w.clients name (unwanting s id)))) →
      IfSome (went now (uninterest_step w n name id)) Q
  unfolding uninterest_step
  for_uninterest n name id step =
      for_bind (client_at (client_of w.clients name)) _ (λ s es. for_test (has_number s.interests id) _ _ (λ known. for_client_sends n name s (m.EndInterest id) _ (λ e there unbroken.
      step s (client_found (client_of w.clients name) s es) known e there unbroken)))

  pub for_publish : (n : ℕ) (name : List ℕ) (content : Parts) →
      ((s : ClientState) → client_of w.clients name ≡ Some s → (e : EndState) → end_of w.ends (s.router, name) ≡ Some e → e.unbroken ≡ true → Q (on_publish now n name content s e)) →
      IfSome (went now (publish_step w n name content)) Q
  unfolding publish_step
  for_publish n name content step =
      for_bind (client_at (client_of w.clients name)) _ (λ s es. for_client_sends n name s (m.Push None content) _ (λ e there unbroken.
      step s (client_found (client_of w.clients name) s es) e there unbroken))

  pub for_get : (n : ℕ) (name : List ℕ) (number : ℕ) (target : Target) (content : Parts) →
      ((s : ClientState) → client_of w.clients name ≡ Some s → has_number s.queries number ≡ false → (e : EndState) → end_of w.ends (s.router, name) ≡ Some e → e.unbroken ≡ true →
      nat_le most_queries (length s.queries) ≡ false → Q (on_said now n name (m.Request None number target content) s e (with_client w.clients name (asking s number)))) →
      IfSome (went now (get_step w n name number target content)) Q
  unfolding get_step
  for_get n name number target content step =
      for_bind (client_at (client_of w.clients name)) _ (λ s es. for_unless (has_number s.queries number) _ _ (λ fresh.
      for_client_sends n name s (m.Request None number target content) _ (λ e there unbroken. for_unless (nat_le most_queries (length s.queries)) _ _ (λ room.
      step s (client_found (client_of w.clients name) s es) fresh e there unbroken room))))

  pub for_reply : (n : ℕ) (name : List ℕ) (number : ℕ) (content : Parts) →
      ((s : ClientState) → client_of w.clients name ≡ Some s → (e : EndState) → end_of w.ends (s.router, name) ≡ Some e → e.unbroken ≡ true → has_number s.requests number ≡ true →
      Q (on_said now n name (m.Response number content) s e w.clients)) →
      IfSome (went now (reply_step w n name number content)) Q
  unfolding reply_step
  for_reply n name number content step =
      for_bind (client_at (client_of w.clients name)) _ (λ s es. for_client_sends n name s (m.Response number content) _ (λ e there unbroken.
      for_test (has_number s.requests number) _ _ (λ asked. step s (client_found (client_of w.clients name) s es) e there unbroken asked)))

  pub for_end : (n : ℕ) (name : List ℕ) (number : ℕ) →
      ((s : ClientState) → client_of w.clients name ≡ Some s → (e : EndState) → end_of w.ends (s.router, name) ≡ Some e → e.unbroken ≡ true → has_number s.requests number ≡ true →
      Q (on_said now n name (m.Final number no_extras) s e (with_client w.clients name (ending s number)))) →
      IfSome (went now (end_step w n name number)) Q
  unfolding end_step
  for_end n name number step =
      for_bind (client_at (client_of w.clients name)) _ (λ s es. for_client_sends n name s (m.Final number no_extras) _ (λ e there unbroken.
      for_test (has_number s.requests number) _ _ (λ asked. step s (client_found (client_of w.clients name) s es) e there unbroken asked)))

  -- a client says something and declares nothing: what is shown of this is shown of a sample, a query, a reply and an end, and of the end of an interest
  abbrev pub Says : ℕ → List ℕ → Msg → Type 0
  Says n name msg = (s : ClientState) → client_of w.clients name ≡ Some s → (e : EndState) → end_of w.ends (s.router, name) ≡ Some e → e.unbroken ≡ true →
      (clients : Clients) → SameClients w.clients clients → Q (on_said now n name msg s e clients)

  -- what it says weighs on its router: what is shown of this too is shown of an interest
  abbrev pub Weighs : ℕ → List ℕ → List ℕ → Msg → Type 0
  Weighs n name key msg = (s : ClientState) → client_of w.clients name ≡ Some s → (e : EndState) → end_of w.ends (s.router, name) ≡ Some e → e.unbroken ≡ true →
      (r : RouterState) → router_of w.routers s.router ≡ Some r → nat_le (r.weight + weight_of key) most_weight ≡ true →
      (clients : Clients) → SameClients w.clients clients → Q (on_weighed now n name key msg s e r clients)

  pub interest_says : (n : ℕ) (name : List ℕ) (id : ℕ) (mode : Mode) (kinds : Kinds) (key : Option (List ℕ)) (aggregate : Bool) →
      Says n name (m.Interest id (is_current mode) (is_future mode) kinds key aggregate) →
      Weighs n name (unwrap_or key []) (m.Interest id (is_current mode) (is_future mode) kinds key aggregate) →
      IfSome (went now (interest_step w n name id mode kinds key aggregate)) Q
  interest_says n name id mode kinds key aggregate says weighs = for_interest n name id mode kinds key aggregate
      (λ s found fresh e there unbroken passing. says s found e there unbroken w.clients (same_clients w.clients))
      (λ s found fresh e there unbroken lasts r er room. weighs s found e there unbroken r er room
      (with_client w.clients name (wanting s id)) (same_with_client w.clients name s (wanting s id) found refl))

  pub uninterest_says : (n : ℕ) (name : List ℕ) (id : ℕ) → Says n name (m.EndInterest id) → IfSome (went now (uninterest_step w n name id)) Q
  uninterest_says n name id says = for_uninterest n name id (λ s found known e there unbroken.
      says s found e there unbroken (with_client w.clients name (unwanting s id)) (same_with_client w.clients name s (unwanting s id) found refl))

  pub publish_says : (n : ℕ) (name : List ℕ) (content : Parts) → Says n name (m.Push None content) → IfSome (went now (publish_step w n name content)) Q
  publish_says n name content says = for_publish n name content (λ s found e there unbroken. says s found e there unbroken w.clients (same_clients w.clients))

  pub get_says : (n : ℕ) (name : List ℕ) (number : ℕ) (target : Target) (content : Parts) → Says n name (m.Request None number target content) → IfSome (went now (get_step w n name number target content)) Q
  get_says n name number target content says = for_get n name number target content (λ s found fresh e there unbroken room.
      says s found e there unbroken (with_client w.clients name (asking s number)) (same_with_client w.clients name s (asking s number) found refl))

  pub reply_says : (n : ℕ) (name : List ℕ) (number : ℕ) (content : Parts) → Says n name (m.Response number content) → IfSome (went now (reply_step w n name number content)) Q
  reply_says n name number content says = for_reply n name number content (λ s found e there unbroken asked. says s found e there unbroken w.clients (same_clients w.clients))

  pub end_says : (n : ℕ) (name : List ℕ) (number : ℕ) → Says n name (m.Final number no_extras) → IfSome (went now (end_step w n name number)) Q
  end_says n name number says = for_end n name number (λ s found e there unbroken asked.
      says s found e there unbroken (with_client w.clients name (ending s number)) (same_with_client w.clients name s (ending s number) found refl))

  pub for_handle : (router from : List ℕ) →
      ((r : RouterState) → router_of w.routers router ≡ Some r → is_taken w from ≡ true → (s : EndState) → end_of w.ends (router, from) ≡ Some s → s.up ≡ true →
      (msg : Msg) (tag : ℕ) (xs : List Tagged) → s.wire ≡ record { msg = msg; tag = tag } ∷ xs → (l : LinkNo) → number_to r from ≡ Ok l → refuses r.node (From l msg) ≡ None →
      Q (on_handle now router from r s l msg tag xs)) →
      IfSome (went now (handle_step w router from)) Q
  unfolding handle_step
  for_handle router from step =
      for_bind (router_at (router_of w.routers router)) _ (λ r er. for_test (is_taken w from) _ _ (λ there. for_bind (end_at (end_of w.ends (router, from))) _ (λ s es.
      for_test s.up _ _ (λ up. for_bind (oldest s.wire) _ (λ x ex. for_bind (number_to r from) _ (λ l el.
      for_hears (with_ends w (with_end w.ends (router, from) (with_wire s x.1))) router r (From l x.0.msg) x.0.tag (handled x.0) (λ taken.
      step r (router_found (router_of w.routers router) r er) there s (end_found (end_of w.ends (router, from)) s es) up x.0.msg x.0.tag x.1 (oldest_found s.wire x ex) l el taken)))))))
    where
      handled : Tagged → WorldState → Outcome
      handled x v = Ok (line.Handled router from x.msg x.tag ∷ [], v)

  pub for_take : (router to : List ℕ) →
      ((r : RouterState) → router_of w.routers router ≡ Some r → is_taken w to ≡ true → (s : EndState) → end_of w.ends (router, to) ≡ Some s → s.up ≡ true → s.unbroken ≡ true →
      (msg : Msg) (tag : ℕ) (xs : List Tagged) → s.queue ≡ record { msg = msg; tag = tag } ∷ xs → Q (on_take now router to s msg tag xs)) →
      IfSome (went now (take_step w router to)) Q
  unfolding take_step
  for_take router to step =
      for_bind (router_at (router_of w.routers router)) _ (λ r er. for_test (is_taken w to) _ _ (λ there. for_bind (end_at (end_of w.ends (router, to))) _ (λ s es.
      for_test s.up _ _ (λ up. for_test s.unbroken _ _ (λ unbroken. for_bind (oldest s.queue) _ (λ x ex.
      step r (router_found (router_of w.routers router) r er) there s (end_found (end_of w.ends (router, to)) s es) up unbroken x.0.msg x.0.tag x.1 (oldest_found s.queue x ex)))))))

  pub for_mark : (n : ℕ) → (is_settled w ≡ true → is_joined w ≡ true → Q (on_mark now n)) → IfSome (went now (mark_step w n)) Q
  unfolding mark_step
  for_mark n step = for_test (is_settled w) _ _ (λ settled. for_test (is_joined w) _ _ (λ joined. step settled joined))

  pub for_show : (router : List ℕ) → ((r : RouterState) → router_of w.routers router ≡ Some r → Q (on_show now router r)) → IfSome (went now (show_step w router)) Q
  unfolding show_step
  for_show router step = for_bind (router_at (router_of w.routers router)) _ (λ r er. step r (router_found (router_of w.routers router) r er))
