-- An act is answered `Limit` by a test of its own, or where its router refuses an event; and none does in a world to which calls lead.
use Rattle.std.proofs.Common.{◌≡◌, ℕ, Bool, true, false, cond, not, List, [], ◌∷◌, length, Option, Some, None, Result, Ok, Err, refl, sym, ap, ◌∙◌}
use Rattle.std.specs.Prelude.{◌+◌, ◌&&◌, nat_le, is_ok, unwrap_or}
use Rattle.std.specs.Option.{option_map_or}
use Rattle.std.specs.Ordering.{nat_cmp}
use Rattle.std.specs.Cmp.Lexicographic.{slice_cmp}
use Rattle.std.specs.BTreeMap.{insert_entry}
use Rattle.std.proofs.lemmas.Bool.{false≢true}
use Rattle.zr_id.specs.Zid.{is_named}
use Rattle.zr_msg.specs.declared.content.Parts.{Parts}
use Rattle.zr_msg.specs.declared.decl.Kind.{Kind}
use Rattle.zr_msg.specs.declared.decl.Kind.TheVariants as k
use Rattle.zr_msg.specs.declared.event.Event.{Event}
use Rattle.zr_msg.specs.declared.event.Event.TheVariants.{Down, From}
use Rattle.zr_msg.specs.declared.msg.Msg.{Msg}
use Rattle.zr_msg.specs.declared.msg.Kinds.{Kinds}
use Rattle.zr_msg.specs.declared.msg.Msg.TheVariants as m
use Rattle.zr_msg.specs.declared.msg.Target.{Target}
use Rattle.zr_msg.specs.declared.peer.LinkPeer.{LinkPeer}
use Rattle.zr_msg.specs.declared.peer.Role.TheVariants as role
use Rattle.zr_msg.specs.Extras.{no_extras}
use Rattle.zr_script_spec.specs.declared.command.Act.TheVariants as a
use Rattle.zr_script_spec.specs.declared.command.Mode.{Mode}
use Rattle.zr_script_spec.specs.declared.error.ScriptError.{ScriptError}
use Rattle.zr_script_spec.specs.declared.error.ScriptError.TheVariants.{Limit, BadWords, UnknownName, NameTaken, NotLinked, AlreadyLinked, NotAsked, NotSettled, NotJoined}
use Rattle.zr_script_spec.specs.declared.report.ReportLine.TheVariants.{Handled}
use Rattle.zr_script_spec.specs.Mode.{is_current, is_future}
use Rattle.zr_script_spec.specs.Step.{◌>>=◌}
use Rattle.zr_node_spec.specs.Table.{able_kind}
use Rattle.zr_node_spec.specs.Tables.{link_to}
use Rattle.zr_world_spec.specs.World.{Tagged, ClientState, RouterState, EndState, Routers, WorldState, with_ends, with_clients, new_client, new_end, router_of, client_of, with_router, is_taken, end_of, with_end, put_end, most_routers, most_clients, most_links, most_weight, most_queries, weight_of, is_in_place, links_in_place, with_wire, lifted, lowered, changed, is_settled}
use Rattle.zr_world_spec.specs.Joined.{is_joined}
use Rattle.zr_world_spec.specs.Acts.{Outcome, unless, router_at, client_at, end_at, oldest, has_number, has_id, weighing, weighed, refuses_of, heard, heard_by, hears, peer_of, up_event, number_at, number_to, client_sends, router_step, client_step, link_step, up_step, break_step, down_step, declare_step, undeclare_step, keeps_interest, interest_step, uninterest_step, publish_step, get_step, reply_step, end_step, handle_step, take_step, mark_step, show_step, outcome}
use Rattle.zr_world_spec.proofs.Cases.{w_sent, router_found, end_found, oldest_found, client_found}
use Rattle.zr_world_spec.proofs.Sound.{up_may_come, client_may_come, down_may_come}
use Rattle.zr_law_calls.specs.Reached.{IsReached}
use Rattle.zr_law_calls.specs.Limits.{has_no_room, asks_most, OnlyLimitsAreMet}
use Rattle.zr_law_calls.proofs.Reached.{reached_sound, reached_takes, reached_waiting}

-- ---- what a reading is not refused with

no_router : (o : Option RouterState) → router_at o ≡ Err Limit → ⊥
no_router None h = cc
no_router (Some r) h = cc

no_client : (o : Option ClientState) → client_at o ≡ Err Limit → ⊥
no_client None h = cc
no_client (Some s) h = cc

no_end : (o : Option EndState) → end_at o ≡ Err Limit → ⊥
no_end None h = cc
no_end (Some s) h = cc

no_oldest : (ms : List Tagged) → oldest ms ≡ Err Limit → ⊥
no_oldest [] h = cc
no_oldest (m ∷ ms) h = cc

no_number : (r : RouterState) (name : List ℕ) → number_to r name ≡ Err Limit → ⊥
no_number r name h = by (link_to r.node.links name) h
  where
    by : (o : Option LinkPeer) → number_at o ≡ Err Limit → ⊥
    by None h = cc
    by (Some l) h = cc

-- a declaration for which there is no room
no_room : (routers : Routers) (name key : List ℕ) (o : Option RouterState) → weighed routers name key o ≡ Err Limit → option_map_or (λ r. not (nat_le (r.weight + weight_of key) most_weight)) o false ≡ true
no_room routers name key None h = absurd (cc)
no_room routers name key (Some r) h = by (nat_le (r.weight + weight_of key) most_weight) h
  where
    by : (b : Bool) → cond b (Ok (with_router routers name (weighing r key))) (Err Limit) ≡ Err Limit → not b ≡ true
    by true k = absurd (cc)
    by false k = refl

-- ---- the acts: what follows from each limit that an act tests follows where it is answered `Limit`

module _ (w : WorldState) (n : ℕ) (h : IsReached w n) (P : Type 0) where
  -- an act that reads first
  at_read : {A : Type 0} (a : Result A ScriptError) (f : A → Outcome) → (a ≡ Err Limit → ⊥) → ((x : A) → a ≡ Ok x → f x ≡ Err Limit → P) → (a >>= f) ≡ Err Limit → P
  at_read (Ok x) f never step k = step x refl k
  at_read (Err e) f never step k = let same : e ≡ Limit = cc in absurd (never (ap Err same))

  -- a test that an act has to pass, for which another refusal stands
  at_unless : (b : Bool) (e : ScriptError) (f : Unit {0} → Outcome) → (e ≡ Limit → ⊥) → (b ≡ false → f tt ≡ Err Limit → P) → (unless b e >>= f) ≡ Err Limit → P
  at_unless true e f never step k = let same : e ≡ Limit = cc in absurd (never same)
  at_unless false e f never step k = step refl k

  -- and one that isn't to fail
  at_test : (b : Bool) (e : ScriptError) (f : Unit {0} → Outcome) → (e ≡ Limit → ⊥) → (b ≡ true → f tt ≡ Err Limit → P) → (unless (not b) e >>= f) ≡ Err Limit → P
  at_test true e f never step k = step refl k
  at_test false e f never step k = let same : e ≡ Limit = cc in absurd (never same)

  -- the test of a limit
  at_limit : (b : Bool) (f : Unit {0} → Outcome) → (b ≡ true → P) → (b ≡ false → f tt ≡ Err Limit → P) → (unless b Limit >>= f) ≡ Err Limit → P
  at_limit true f met step k = met refl
  at_limit false f met step k = step refl k

  -- what was accepted
  at_end : (o : Outcome) → is_ok o ≡ true → o ≡ Err Limit → P
  at_end (Ok x) ok k = absurd (cc)
  at_end (Err e) ok k = absurd (false≢true ok)

  -- a router that hears of an event that it takes
  at_hears : (v : WorldState) (x : List ℕ) (r : RouterState) (event : Event) (tag : ℕ) (f : WorldState → Outcome) → refuses_of r event ≡ None → ((u : WorldState) → f u ≡ Err Limit → P) →
      (hears v x r event tag >>= f) ≡ Err Limit → P
  at_hears v x r event tag f takes step k = step (heard v x r event tag) (sym (ap (λ o. heard_by v x r event tag o >>= f) takes) ∙ k)

  -- a client that sends
  at_sends : (line : ℕ) (name : List ℕ) (s : ClientState) (msg : Msg) (f : WorldState → Outcome) → ((e : EndState) → f (w_sent w line name s e msg) ≡ Err Limit → P) →
      (client_sends w line name s msg >>= f) ≡ Err Limit → P
  unfolding client_sends
  at_sends line name s msg f step k = by (end_of w.ends (s.router, name)) k
    where
      at : (e : EndState) (b : Bool) → ((unless (not b) NotLinked >>= (λ u. Ok (w_sent w line name s e msg))) >>= f) ≡ Err Limit → P
      at e true k = step e k
      at e false k = absurd (cc)

      by : (o : Option EndState) → ((end_at o >>= (λ e. unless (not e.unbroken) NotLinked >>= (λ u. Ok (w_sent w line name s e msg)))) >>= f) ≡ Err Limit → P
      by None k = absurd (cc)
      by (Some e) k = at e e.unbroken k

  -- a declaration that is to weigh on its router
  at_weighed : (name key : List ℕ) (s : ClientState) (f : Routers → Outcome) → client_of w.clients name ≡ Some s → (has_no_room w name key ≡ true → P) → ((rs : Routers) → f rs ≡ Err Limit → P) →
      (weighed w.routers s.router key (router_of w.routers s.router) >>= f) ≡ Err Limit → P
  at_weighed name key s f found met step k = by (weighed w.routers s.router key (router_of w.routers s.router)) refl k
    where
      room : Option ClientState → Bool
      room o = option_map_or (λ s. option_map_or (λ r. not (nat_le (r.weight + weight_of key) most_weight)) (router_of w.routers s.router) false) o false

      by : (a : Result Routers ScriptError) → weighed w.routers s.router key (router_of w.routers s.router) ≡ a → (a >>= f) ≡ Err Limit → P
      by (Ok rs) is k = step rs k
      by (Err e) is k = let same : e ≡ Limit = cc in met (ap room found ∙ no_room w.routers s.router key (router_of w.routers s.router) (is ∙ ap Err same))

  at_router : (id : List ℕ) → (nat_le most_routers (length w.routers) ≡ true → P) → router_step w id ≡ Err Limit → P
  unfolding router_step
  at_router id met = at_unless (is_taken w id) NameTaken _ (λ k. cc) (λ free. at_limit (nat_le most_routers (length w.routers)) _ met (λ room. at_end _ refl))

  at_client : (line : ℕ) (id router : List ℕ) → (nat_le most_clients (length w.clients) ≡ true → P) → client_step w line id router ≡ Err Limit → P
  unfolding client_step
  at_client line id router met =
      at_read (router_at (router_of w.routers router)) _ (no_router _) (λ r is. at_unless (is_taken w id) NameTaken _ (λ k. cc) (λ free. at_limit (nat_le most_clients (length w.clients)) _ met (λ room.
      let found = router_found (router_of w.routers router) r is in
      at_hears (with_ends w (put_end w.ends (router, id) (lifted (new_end 1)))) router r (up_event r (record { id = id; role = role.Client; weight = 1 })) line came
      (reached_takes w n h router r (up_event r (record { id = id; role = role.Client; weight = 1 })) found (client_may_come w (reached_sound w n h) router id r found free)) (λ u. at_end (came u) refl))))
    where
      came : WorldState → Outcome
      came v = Ok ([], with_clients v (insert_entry (slice_cmp nat_cmp) v.clients id (new_client router)))

  at_link : (one other : List ℕ) (weight : ℕ) → (nat_le most_links (length (links_in_place w)) ≡ true → P) → link_step w one other weight ≡ Err Limit → P
  unfolding link_step
  at_link one other weight met =
      at_unless (is_named one other) BadWords _ (λ k. cc) (λ apart. at_read (router_at (router_of w.routers one)) _ (no_router _) (λ r is. at_read (router_at (router_of w.routers other)) _ (no_router _) (λ q iq.
      at_unless (is_in_place w.ends (one, other)) AlreadyLinked _ (λ k. cc) (λ new. at_limit (nat_le most_links (length (links_in_place w))) _ met (λ room. at_end _ refl)))))

  at_up : (line : ℕ) (router name : List ℕ) → up_step w line router name ≡ Err Limit → P
  unfolding up_step
  at_up line router name =
      at_read (router_at (router_of w.routers router)) _ (no_router _) (λ r is. at_test (is_taken w name) UnknownName _ (λ k. cc) (λ there. at_read (end_at (end_of w.ends (router, name))) _ (no_end _) (λ s at.
      at_test s.unbroken NotLinked _ (λ k. cc) (λ unbroken. at_unless s.up AlreadyLinked _ (λ k. cc) (λ down.
      let found = router_found (router_of w.routers router) r is in
      at_hears (with_ends w (with_end w.ends (router, name) (lifted s))) router r (up_event r (peer_of w name s.weight)) line came
      (reached_takes w n h router r (up_event r (peer_of w name s.weight)) found (up_may_come w (reached_sound w n h) router name r found s (end_found (end_of w.ends (router, name)) s at) down))
      (λ u. at_end (came u) refl))))))
    where
      came : WorldState → Outcome
      came v = Ok ([], v)

  at_break : (router name : List ℕ) → break_step w router name ≡ Err Limit → P
  unfolding break_step
  at_break router name =
      at_read (router_at (router_of w.routers router)) _ (no_router _) (λ r is. at_test (is_taken w name) UnknownName _ (λ k. cc) (λ there. at_read (end_at (end_of w.ends (router, name))) _ (no_end _) (λ s at.
      at_test s.unbroken NotLinked _ (λ k. cc) (λ unbroken. at_end _ refl))))

  at_down : (line : ℕ) (router name : List ℕ) → down_step w line router name ≡ Err Limit → P
  unfolding down_step
  at_down line router name =
      at_read (router_at (router_of w.routers router)) _ (no_router _) (λ r is. at_test (is_taken w name) UnknownName _ (λ k. cc) (λ there. at_read (end_at (end_of w.ends (router, name))) _ (no_end _) (λ s at.
      at_test s.up NotLinked _ (λ k. cc) (λ up. at_unless s.unbroken NotLinked _ (λ k. cc) (λ cut. at_read (number_to r name) _ (no_number r name) (λ l number.
      let found = router_found (router_of w.routers router) r is in
      at_hears w router r (Down l) line gone (reached_takes w n h router r (Down l) found (down_may_come w (reached_sound w n h) router name r found l number)) (λ u. at_end (gone u) refl)))))))
    where
      gone : WorldState → Outcome
      gone v = Ok ([], with_ends v (changed v.ends (router, name) lowered))

  at_declare : (line : ℕ) (name : List ℕ) (kind : Kind) (id : ℕ) (key : List ℕ) (msg : Msg) → (has_no_room w name key ≡ true → P) → declare_step w line name kind id key msg ≡ Err Limit → P
  unfolding declare_step
  at_declare line name kind id key msg met =
      at_read (client_at (client_of w.clients name)) _ (no_client _) (λ s is. at_unless (has_id s kind id) NameTaken _ (λ k. cc) (λ fresh. at_sends line name s msg _ (λ e.
      at_weighed name key s _ (client_found (client_of w.clients name) s is) met (λ rs. at_end _ refl))))

  at_undeclare : (line : ℕ) (name : List ℕ) (kind : Kind) (id : ℕ) (msg : Msg) → undeclare_step w line name kind id msg ≡ Err Limit → P
  unfolding undeclare_step
  at_undeclare line name kind id msg =
      at_read (client_at (client_of w.clients name)) _ (no_client _) (λ s is. at_test (has_id s kind id) UnknownName _ (λ k. cc) (λ known. at_sends line name s msg _ (λ e. at_end _ refl)))

  at_interest : (line : ℕ) (name : List ℕ) (id : ℕ) (mode : Mode) (kinds : Kinds) (key : Option (List ℕ)) (aggregate : Bool) → ((is_future mode && has_no_room w name (unwrap_or key [])) ≡ true → P) →
      interest_step w line name id mode kinds key aggregate ≡ Err Limit → P
  unfolding interest_step
  at_interest line name id mode kinds key aggregate met =
      at_read (client_at (client_of w.clients name)) _ (no_client _) (λ s is. at_unless (has_number s.interests id) NameTaken _ (λ k. cc) (λ fresh. at_sends line name s msg (goes s) (λ e.
      by (is_future mode) s e (client_found (client_of w.clients name) s is) met)))
    where
      msg : Msg
      msg = m.Interest id (is_current mode) (is_future mode) kinds key aggregate

      goes : ClientState → WorldState → Outcome
      goes s v = cond (is_future mode) (keeps_interest v name s id (unwrap_or key [])) (Ok ([], v))

      by : (b : Bool) (s : ClientState) (e : EndState) → client_of w.clients name ≡ Some s → ((b && has_no_room w name (unwrap_or key [])) ≡ true → P) →
          cond b (keeps_interest (w_sent w line name s e msg) name s id (unwrap_or key [])) (Ok ([], w_sent w line name s e msg)) ≡ Err Limit → P
      by false s e found met = at_end _ refl
      by true s e found met = at_weighed name (unwrap_or key []) s _ found met (λ rs. at_end _ refl)

  at_uninterest : (line : ℕ) (name : List ℕ) (id : ℕ) → uninterest_step w line name id ≡ Err Limit → P
  unfolding uninterest_step
  at_uninterest line name id =
      at_read (client_at (client_of w.clients name)) _ (no_client _) (λ s is. at_test (has_number s.interests id) UnknownName _ (λ k. cc) (λ known. at_sends line name s (m.EndInterest id) _ (λ e. at_end _ refl)))

  at_publish : (line : ℕ) (name : List ℕ) (content : Parts) → publish_step w line name content ≡ Err Limit → P
  unfolding publish_step
  at_publish line name content = at_read (client_at (client_of w.clients name)) _ (no_client _) (λ s is. at_sends line name s (m.Push None content) _ (λ e. at_end _ refl))

  at_get : (line : ℕ) (name : List ℕ) (number : ℕ) (target : Target) (content : Parts) → (asks_most w name ≡ true → P) → get_step w line name number target content ≡ Err Limit → P
  unfolding get_step
  at_get line name number target content met =
      at_read (client_at (client_of w.clients name)) _ (no_client _) (λ s is. at_unless (has_number s.queries number) NameTaken _ (λ k. cc) (λ free. at_sends line name s (m.Request None number target content) _ (λ e.
      at_limit (nat_le most_queries (length s.queries)) _ (λ full. met (ap open_most (client_found (client_of w.clients name) s is) ∙ full)) (λ room. at_end _ refl))))
    where
      open_most : Option ClientState → Bool
      open_most o = option_map_or (λ s. nat_le most_queries (length s.queries)) o false

  at_reply : (line : ℕ) (name : List ℕ) (number : ℕ) (content : Parts) → reply_step w line name number content ≡ Err Limit → P
  unfolding reply_step
  at_reply line name number content =
      at_read (client_at (client_of w.clients name)) _ (no_client _) (λ s is. at_sends line name s (m.Response number content) _ (λ e. at_test (has_number s.requests number) NotAsked _ (λ k. cc) (λ asked. at_end _ refl)))

  at_final : (line : ℕ) (name : List ℕ) (number : ℕ) → end_step w line name number ≡ Err Limit → P
  unfolding end_step
  at_final line name number =
      at_read (client_at (client_of w.clients name)) _ (no_client _) (λ s is. at_sends line name s (m.Final number no_extras) _ (λ e. at_test (has_number s.requests number) NotAsked _ (λ k. cc) (λ asked. at_end _ refl)))

  at_handle : (router from : List ℕ) → handle_step w router from ≡ Err Limit → P
  unfolding handle_step
  at_handle router from =
      at_read (router_at (router_of w.routers router)) _ (no_router _) (λ r is. at_test (is_taken w from) UnknownName _ (λ k. cc) (λ there. at_read (end_at (end_of w.ends (router, from))) _ (no_end _) (λ s at.
      at_test s.up NotLinked _ (λ k. cc) (λ up. at_read (oldest s.wire) _ (no_oldest _) (λ x first. at_read (number_to r from) _ (no_number r from) (λ l number.
      at_hears (with_ends w (with_end w.ends (router, from) (with_wire s x.1))) router r (From l x.0.msg) x.0.tag (handled x.0)
      (reached_waiting w n h router from r s l x.0 x.1 (router_found (router_of w.routers router) r is) (end_found (end_of w.ends (router, from)) s at) up (oldest_found s.wire x first) number)
      (λ u. at_end (handled x.0 u) refl)))))))
    where
      handled : Tagged → WorldState → Outcome
      handled x v = Ok (Handled router from x.msg x.tag ∷ [], v)

  at_take : (router to : List ℕ) → take_step w router to ≡ Err Limit → P
  unfolding take_step
  at_take router to =
      at_read (router_at (router_of w.routers router)) _ (no_router _) (λ r is. at_test (is_taken w to) UnknownName _ (λ k. cc) (λ there. at_read (end_at (end_of w.ends (router, to))) _ (no_end _) (λ s at.
      at_test s.up NotLinked _ (λ k. cc) (λ up. at_test s.unbroken NotLinked _ (λ k. cc) (λ unbroken. at_read (oldest s.queue) _ (no_oldest _) (λ x first. at_end _ refl))))))

  at_mark : (line : ℕ) → mark_step w line ≡ Err Limit → P
  unfolding mark_step
  at_mark line = at_test (is_settled w) NotSettled _ (λ k. cc) (λ settled. at_test (is_joined w) NotJoined _ (λ k. cc) (λ joined. at_end _ refl))

  at_show : (router : List ℕ) → show_step w router ≡ Err Limit → P
  unfolding show_step
  at_show router = at_read (router_at (router_of w.routers router)) _ (no_router _) (λ r is. at_end _ refl)

-- ---- all acts

pub limits_met : OnlyLimitsAreMet
unfolding outcome
limits_met w n line (a.Router id) h e = at_router w n h _ id (λ k. k) e
limits_met w n line (a.Client id router) h e = at_client w n h _ line id router (λ k. k) e
limits_met w n line (a.Link one other weight) h e = at_link w n h _ one other weight (λ k. k) e
limits_met w n line (a.Up router neighbour) h e = at_up w n h _ line router neighbour e
limits_met w n line (a.Break router neighbour) h e = at_break w n h _ router neighbour e
limits_met w n line (a.Down router neighbour) h e = at_down w n h _ line router neighbour e
limits_met w n line (a.Sub client id key) h e = at_declare w n h _ line client k.Sub id key (m.Sub id key) (λ k. k) e
limits_met w n line (a.Unsub client id) h e = at_undeclare w n h _ line client k.Sub id (m.Unsub id) e
limits_met w n line (a.Able client id key complete) h e = at_declare w n h _ line client (able_kind complete) id key (m.Able id key complete) (λ k. k) e
limits_met w n line (a.Unable client id) h e = at_undeclare w n h _ line client k.Able id (m.Unable id) e
limits_met w n line (a.Token client id key) h e = at_declare w n h _ line client k.Token id key (m.Token id key) (λ k. k) e
limits_met w n line (a.Untoken client id) h e = at_undeclare w n h _ line client k.Token id (m.Untoken id) e
limits_met w n line (a.Interest client id mode kinds key aggregate) h e = at_interest w n h _ line client id mode kinds key aggregate (λ k. k) e
limits_met w n line (a.Uninterest client id) h e = at_uninterest w n h _ line client id e
limits_met w n line (a.Publish client content) h e = at_publish w n h _ line client content e
limits_met w n line (a.Get client number target content) h e = at_get w n h _ line client number target content (λ k. k) e
limits_met w n line (a.Reply client number content) h e = at_reply w n h _ line client number content e
limits_met w n line (a.End client number) h e = at_final w n h _ line client number e
limits_met w n line (a.Handle router from) h e = at_handle w n h _ router from e
limits_met w n line (a.Take router to) h e = at_take w n h _ router to e
limits_met w n line a.Mark h e = at_mark w n h _ line e
limits_met w n line (a.Show router) h e = at_show w n h _ router e
