-- Each act leaves routers whose clients were told of what they want, and no more clients than there may be.
use Rattle.std.proofs.Common.{◌≡◌, ◌≤◌, ◌<◌, ℕ, Bool, true, false, cond, List, [], length, Some, None, sym, ap, ◌∙◌, subst, arith}
use Rattle.std.specs.Prelude.{IfSome, is_some, unwrap_or}
use Rattle.std.specs.BTreeMap.{insert_entry}
use Rattle.std.specs.Cmp.Lexicographic.{slice_cmp}
use Rattle.std.specs.Ordering.{nat_cmp}
use Rattle.std.proofs.lemmas.Bool.{false≢true, leb-false}
use Rattle.std.proofs.lemmas.List.{length-map}
use Rattle.std.proofs.lemmas.Map.{length-set_value}
use Rattle.zr_lists.proofs.Options.{not_there}
use Rattle.zr_lists.proofs.Entries.{length_inserted}
use Rattle.zr_id.specs.Zid.{is_named}
use Rattle.zr_msg.specs.declared.decl.Kind.TheVariants as k
use Rattle.zr_msg.specs.declared.event.Event.{Event}
use Rattle.zr_msg.specs.declared.event.Event.TheVariants.{Down, From}
use Rattle.zr_msg.specs.declared.msg.Msg.TheVariants as m
use Rattle.zr_msg.specs.declared.peer.Role.TheVariants.{Client}
use Rattle.zr_node_spec.specs.Table.{able_kind}
use Rattle.zr_script_spec.specs.declared.command.Act.{Act}
use Rattle.zr_script_spec.specs.declared.command.Act.TheVariants as a
use Rattle.zr_world_spec.specs.World.{RouterState, ClientState, Routers, Clients, WorldState, router_of, with_router, with_client, new_router, new_client, most_clients}
use Rattle.zr_world_spec.specs.Acts.{outcome, weighing, declaring, undeclaring, hearing, having_told, up_event, peer_of}
use Rattle.zr_world_spec.specs.Moments.{Numbered, Moment, went, reached}
use Rattle.zr_world_spec.proofs.Clients.{SameClients, same_received}
use Rattle.zr_world_spec.proofs.Keyed.{set_twice}
use Rattle.zr_world_spec.proofs.Names.{value_new, read_after}
use Rattle.zr_world_spec.proofs.Cases.{free_name, for_router, for_client, for_link, for_up, for_break, for_down, for_declare, for_undeclare, interest_says, uninterest_says, publish_says, get_says, reply_says, end_says, for_handle, for_take, for_mark, for_show}
use Rattle.zr_law_settled.proofs.Moments.{at_moments}
use Rattle.zr_law_fans.proofs.Right.{IsRight, having_told_right, new_right, weighing_right}

abbrev pub AreRight : Routers → Type 0
AreRight routers = (x : List ℕ) (r : RouterState) → router_of routers x ≡ Some r → IsRight r

-- one router has another state
set_right : (routers : Routers) (x : List ℕ) (r r' : RouterState) → router_of routers x ≡ Some r → AreRight routers → IsRight r' → AreRight (with_router routers x r')
set_right routers x r r' found right new y q there = by (is_named x y) (sym (read_after (λ o. o) routers x y r r' found) ∙ there)
  where
    by : (t : Bool) → cond t (Some r') (router_of routers y) ≡ Some q → IsRight q
    by true e = let one : r' ≡ q = cc in subst IsRight one new
    by false e = right y q e

-- one more router
new_are_right : (routers : Routers) (id : List ℕ) → router_of routers id ≡ None → AreRight routers → AreRight (insert_entry (slice_cmp nat_cmp) routers id (new_router id))
new_are_right routers id free right y q there = by (is_named y id) (sym (value_new routers id y (new_router id) free) ∙ there)
  where
    by : (t : Bool) → cond t (Some (new_router id)) (router_of routers y) ≡ Some q → IsRight q
    by true e = let one : new_router id ≡ q = cc in subst IsRight one (new_right id)
    by false e = right y q e

-- ---- clients

abbrev AreFew : Clients → Type 0
AreFew clients = length clients ≤ most_clients

few_new : (clients : Clients) (name : List ℕ) (s : ClientState) → length clients < most_clients → AreFew (insert_entry (slice_cmp nat_cmp) clients name s)
few_new clients name s room = let more = length_inserted (slice_cmp nat_cmp) clients name s in omega (arith, more, room)

few_set : (clients : Clients) (name : List ℕ) (s : ClientState) → AreFew clients → AreFew (with_client clients name s)
few_set clients name s few = let same = length-set_value (is_named name) clients s in omega (arith, same, few)

few_same : (clients more : Clients) → SameClients clients more → AreFew clients → AreFew more
few_same clients more same few =
    let long : length more ≡ length clients = sym (length-map more (λ e. e.0)) ∙ ap length same.names ∙ length-map clients (λ e. e.0) in
    omega (arith, long, few)

-- ---- acts

pub record Stands (w : WorldState) : Type 0 where
  pub right : AreRight w.routers
  pub few : length w.clients ≤ most_clients

module _ (now : Moment) (stands : Stands now.world) where
  abbrev w : WorldState
  w = now.world

  abbrev Q : Moment → Type 0
  Q next = Stands next.world

  right : AreRight w.routers
  right = stands.right

  few : AreFew w.clients
  few = stands.few

  hears : (x : List ℕ) (r : RouterState) → router_of w.routers x ≡ Some r → (event : Event) → AreRight (with_router (with_router w.routers x (hearing r event)) x (having_told r event))
  hears x r found event =
      subst AreRight (sym (set_twice (is_named x) w.routers (hearing r event) (having_told r event))) (set_right w.routers x r (having_told r event) found right (having_told_right r event))

  heavier : (x : List ℕ) (key : List ℕ) (r : RouterState) → router_of w.routers x ≡ Some r → AreRight (with_router w.routers x (weighing r key))
  heavier x key r found = set_right w.routers x r (weighing r key) found right (weighing_right r key (right x r found))

  pub act_stands : (line : ℕ) (act : Act) → IfSome (went now (outcome w line act)) Q
  unfolding outcome
  act_stands line (a.Router id) = for_router now Q id (λ free room. record { right = new_are_right w.routers id (not_there (router_of w.routers id) (free_name w id free).0) right; few = few })
  act_stands line (a.Client id router) = for_client now Q line id router (λ r found free room taken. record {
    right = hears router r found (up_event r (record { id = id; role = Client; weight = 1 }));
    few = few_new w.clients id (new_client router) (leb-false most_clients (length w.clients) room);
  })
  act_stands line (a.Link one other weight) = for_link now Q one other weight (λ apart r found q found' new room. record { right = right; few = few })
  act_stands line (a.Up router name) = for_up now Q line router name (λ r found there s at_end unbroken down taken. record { right = hears router r found (up_event r (peer_of w name s.weight)); few = few })
  act_stands line (a.Break router name) = for_break now Q router name (λ r found there s at_end unbroken. record { right = right; few = few })
  act_stands line (a.Down router name) = for_down now Q line router name (λ r found there s at_end up cut l number taken. record { right = hears router r found (Down l); few = few })
  act_stands line (a.Sub client id key) = for_declare now Q line client k.Sub id key (m.Sub id key) (λ s found fresh e at_end unbroken r there weighs. record { right = heavier s.router key r there; few = few_set w.clients client (declaring s k.Sub id) few })
  act_stands line (a.Unsub client id) = for_undeclare now Q line client k.Sub id (m.Unsub id) (λ s found known e at_end unbroken. record { right = right; few = few_set w.clients client (undeclaring s k.Sub id) few })
  act_stands line (a.Token client id key) = for_declare now Q line client k.Token id key (m.Token id key) (λ s found fresh e at_end unbroken r there weighs. record { right = heavier s.router key r there; few = few_set w.clients client (declaring s k.Token id) few })
  act_stands line (a.Untoken client id) = for_undeclare now Q line client k.Token id (m.Untoken id) (λ s found known e at_end unbroken. record { right = right; few = few_set w.clients client (undeclaring s k.Token id) few })
  act_stands line (a.Able client id key complete) = for_declare now Q line client (able_kind complete) id key (m.Able id key complete) (λ s found fresh e at_end unbroken r there weighs. record { right = heavier s.router key r there; few = few_set w.clients client (declaring s (able_kind complete) id) few })
  act_stands line (a.Unable client id) = for_undeclare now Q line client k.Able id (m.Unable id) (λ s found known e at_end unbroken. record { right = right; few = few_set w.clients client (undeclaring s k.Able id) few })
  act_stands line (a.Interest client id mode kinds key aggregate) = interest_says now Q line client id mode kinds key aggregate (λ s found e at_end unbroken clients same. record { right = right; few = few_same w.clients clients same few })
      (λ s found e at_end unbroken r there room clients same. record { right = heavier s.router (unwrap_or key []) r there; few = few_same w.clients clients same few })
  act_stands line (a.Uninterest client id) = uninterest_says now Q line client id (λ s found e at_end unbroken clients same. record { right = right; few = few_same w.clients clients same few })
  act_stands line (a.Publish client content) = publish_says now Q line client content (λ s found e at_end unbroken clients same. record { right = right; few = few_same w.clients clients same few })
  act_stands line (a.Get client number target content) = get_says now Q line client number target content (λ s found e at_end unbroken clients same. record { right = right; few = few_same w.clients clients same few })
  act_stands line (a.Reply client number content) = reply_says now Q line client number content (λ s found e at_end unbroken clients same. record { right = right; few = few_same w.clients clients same few })
  act_stands line (a.End client number) = end_says now Q line client number (λ s found e at_end unbroken clients same. record { right = right; few = few_same w.clients clients same few })
  act_stands line (a.Handle router from) = for_handle now Q router from (λ r found there s at_end up msg tag xs front l number taken. record { right = hears router r found (From l msg); few = few })
  act_stands line (a.Take router to) = for_take now Q router to (λ r found there s at_end up unbroken msg tag xs front. record { right = right; few = few_same w.clients _ (same_received w.clients to msg) few })
  act_stands line a.Mark = for_mark now Q line (λ settled joined. stands)
  act_stands line (a.Show router) = for_show now Q router (λ r found. stands)

pub stands_at : (acts : List Numbered) → IfSome (reached acts) (λ m. Stands m.world)
stands_at acts = at_moments (λ m. Stands m.world) (λ now n act h. act_stands now h n act) (record { right = λ x r found. absurd (false≢true (ap is_some found)); few = omega arith }) acts
