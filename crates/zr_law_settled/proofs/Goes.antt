-- All that holds of every world of a script (`Goes`): each act that is not refused keeps it (`goes_on`), and by it no message that waits is refused
-- (`all_taken`).
use Rattle.std.proofs.Common.{◌≡◌, ◌≤◌, ℕ, false, cond, List, [], ◌∷◌, length, Some, None, Ok, Err, refl, ap, ◌∙◌, subst, arith}
use Rattle.std.specs.Prelude.{IfOk, IfSome}
use Rattle.std.proofs.lemmas.Map.{length-set_value}
use Rattle.zr_id.specs.Zid.{is_named}
use Rattle.zr_graph.proofs.Names.{same_refl}
use Rattle.zr_msg.specs.declared.msg.Msg.{Msg}
use Rattle.zr_msg.specs.declared.event.Event.{Event}
use Rattle.zr_msg.specs.declared.event.Event.TheVariants.{From}
use Rattle.zr_msg.specs.declared.peer.LinkPeer.{LinkPeer}
use Rattle.zr_script_spec.specs.declared.command.Act.{Act}
use Rattle.zr_node_spec.specs.Tables.{link_to}
use Rattle.zr_node_spec.specs.State.{tables}
use Rattle.zr_node_spec.specs.Table.{after, refuses}
use Rattle.zr_told_spec.specs.Rows.{one_lacks_ids}
use Rattle.zr_world_spec.specs.World.{Tagged, RouterState, EndState, WorldState, router_of, with_router, end_of, empty_world, with_booked, most_routers}
use Rattle.zr_world_spec.specs.Acts.{Outcome, outcome, hearing, refuses_of}
use Rattle.zr_world_spec.specs.Moments.{Numbered, Moment, went, reached}
use Rattle.zr_world_spec.specs.Sound.{IsSound, AllAreTaken}
use Rattle.zr_world_spec.proofs.Names.{read_after}
use Rattle.zr_world_spec.proofs.Cases.{number_found}
use Rattle.zr_world_spec.proofs.Sound.{act_keeps, empty_sound}
use Rattle.zr_law_settled.specs.Events.{RequestsAreTaken}
use Rattle.zr_law_settled.proofs.Spreading.{Name}
use Rattle.zr_law_settled.proofs.Moments.{at_moments}
use Rattle.zr_law_settled.proofs.Worlds.{Holds}
use Rattle.zr_law_settled.proofs.Keeping.{acts_keep, empty_holds}
use Rattle.zr_law_settled.proofs.Logs.{LogsHold}
use Rattle.zr_law_settled.proofs.LogKeeping.{logs_keep, empty_logs}
use Rattle.zr_law_settled.proofs.Making.{SetsHold, sets_keep, empty_sets}
use Rattle.zr_law_settled.proofs.ClientRows.{ClientsHold}
use Rattle.zr_law_settled.proofs.ClientKeeping.{clients_keep, empty_clients}
use Rattle.zr_law_settled.proofs.GapKeeping.{GapsHold}
use Rattle.zr_law_settled.proofs.GapActs.{gaps_keep, empty_gaps}
use Rattle.zr_law_settled.proofs.Orderly.{Orderly, act_orderly, empty_orderly}
use Rattle.zr_law_settled.proofs.Weights.{WeightsHold}
use Rattle.zr_law_settled.proofs.WeightsActs.{weights_first, weights_keep, weights_counted, weights_take, handle_holds}
use Rattle.zr_law_settled.proofs.Heard.{event_stays}
use Rattle.zr_law_settled.proofs.BoundedActs.{AreBounded, bounded_first, bounded_on}
use Rattle.zr_law_settled.proofs.Told.{w_handle}
use Rattle.zr_law_settled.proofs.Wanting.{wants_few, hub_takes}
use Rattle.zr_law_settled.proofs.InTurn.{in_turn}

pub record Goes (w : WorldState) : Type 0 where
  pub sound : IsSound w
  pub holds : Holds w
  pub logs : LogsHold w
  pub sets : SetsHold w
  pub clients : ClientsHold w
  pub orderly : Orderly w
  pub gaps : GapsHold w
  pub weights : WeightsHold w
  pub bounded : (n : ℕ) × AreBounded n w.routers

-- ---- each act goes on

pub goes_first : Goes empty_world
goes_first = record {
  sound = empty_sound;
  holds = empty_holds;
  logs = empty_logs;
  sets = empty_sets;
  clients = empty_clients;
  orderly = empty_orderly;
  gaps = empty_gaps;
  weights = weights_first;
  bounded = (0, bounded_first);
}

pub act_goes : (now : Moment) (n : ℕ) (act : Act) → Goes now.world → IfSome (went now (outcome now.world n act)) (λ next. Goes next.world)
act_goes now n act g =
    by (outcome now.world n act) (act_keeps now.world n act g.sound) (acts_keep now g.sound g.holds n act) (logs_keep now g.sound g.holds g.logs n act) (sets_keep now g.sound g.holds g.logs g.sets n act)
    (clients_keep now g.sound g.clients n act) (act_orderly now g.sound g.orderly n act) (gaps_keep now g.sound g.holds g.logs g.gaps n act) (weights_keep now.world n act g.weights)
    _ (bounded_on g.bounded.0 now g.bounded.1 n act)
  where
    by : (o : Outcome) → IfOk o (λ x. IsSound x.1) → IfSome (went now o) (λ next. IsSound next.world → Holds next.world) → IfSome (went now o) (λ next. IsSound next.world → LogsHold next.world) →
        IfSome (went now o) (λ next. SetsHold next.world) → IfSome (went now o) (λ next. ClientsHold next.world) → IfSome (went now o) (λ next. IsSound next.world → Orderly next.world) →
        IfSome (went now o) (λ next. GapsHold next.world) → IfOk o (λ x. WeightsHold x.1) → (m : ℕ) → IfSome (went now o) (λ next. AreBounded m next.world.routers) → IfSome (went now o) (λ next. Goes next.world)
    by (Err e) sound holds logs sets clients orderly gaps weights m bounded = tt
    by (Ok x) sound holds logs sets clients orderly gaps weights m bounded =
        record { sound = sound; holds = holds sound; logs = logs sound; sets = sets; clients = clients; orderly = orderly sound; gaps = gaps; weights = weights; bounded = (m, bounded) }

pub goes_on : (w : WorldState) (line : ℕ) (act : Act) → Goes w → IfOk (outcome w line act) (λ x. Goes x.1)
goes_on w line act g = by (outcome w line act) (act_goes now line act g)
  where
    now : Moment
    now = record { world = w; report = [] }

    by : (o : Outcome) → IfSome (went now o) (λ next. Goes next.world) → IfOk o (λ x. Goes x.1)
    by (Err e) k = tt
    by (Ok x) k = k

-- steps that a run asks for are of no matter
pub goes_counted : (w : WorldState) (booked : ℕ) → Goes w → Goes (with_booked w booked)
goes_counted w booked g = record {
  sound = record {
    in_order = g.sound.in_order;
    routers = g.sound.routers;
    neighbours = g.sound.neighbours;
    apart = g.sound.apart;
    clients = g.sound.clients;
    own = g.sound.own;
    unique = g.sound.unique;
    links = g.sound.links;
    roles = g.sound.roles;
  };
  holds = record { made = g.holds.made; spreads = g.holds.spreads; lists = g.holds.lists; weighs = g.holds.weighs; in_order = g.holds.in_order; twins = g.holds.twins };
  logs = record { spreads = g.logs.spreads; in_order = g.logs.in_order; own_name = g.logs.own_name };
  sets = record { made = g.sets.made; sets = g.sets.sets; none = g.sets.none; known = g.sets.known; way = g.sets.way; rows = g.sets.rows };
  clients = record {
    apart = g.clients.apart;
    homes = g.clients.homes;
    ups = g.clients.ups;
    emptied = g.clients.emptied;
    hears = g.clients.hears;
    rows = g.clients.rows;
  };
  orderly = record {
    down_ends = g.orderly.down_ends;
    broken_links = g.orderly.broken_links;
    senders = g.orderly.senders;
    clients = g.orderly.clients;
    both_ends = g.orderly.both_ends;
    apart = g.orderly.apart;
  };
  gaps = record { gapless = g.gaps.gapless };
  weights = weights_counted w booked g.weights;
  bounded = g.bounded;
}

-- ---- no message is refused

-- a router's clients do not want more than there are ids once it has heard of an event
pub wants_little : (w : WorldState) → Goes w → (x : Name) (r : RouterState) → router_of w.routers x ≡ Some r → (event : Event) (v : WorldState) → v.routers ≡ with_router w.routers x (hearing r event) → WeightsHold v →
    one_lacks_ids (tables (after r.node event)) (after r.node event).clients ≡ false
wants_little w g x r found event v is h = wants_few v h few x (hearing r event) there ((event_stays r.node event).order (g.logs.in_order x r found))
  where
    few : length v.routers ≤ most_routers
    few =
        let count : length v.routers ≡ length w.routers = ap length is ∙ length-set_value (is_named x) w.routers (hearing r event) in
        omega (arith, count, g.bounded.1.few)

    there : router_of v.routers x ≡ Some (hearing r event)
    there = ap (λ rs. router_of rs x) is ∙ read_after (λ o. o) w.routers x x r (hearing r event) found ∙ ap (λ b. cond b (Some (hearing r event)) (router_of w.routers x)) (same_refl x)

module _ (w : WorldState) (g : Goes w) (requests : RequestsAreTaken w) (x y : Name) (r : RouterState) (found : router_of w.routers x ≡ Some r) (e : EndState) (at_end : end_of w.ends (x, y) ≡ Some e) where
  -- the oldest message on a wire is taken
  router_takes : (l : LinkPeer) → link_to r.node.links y ≡ Some l → (msg : Msg) (tag : ℕ) (xs : List Tagged) → e.wire ≡ record { msg = msg; tag = tag } ∷ xs → refuses r.node (From l.link msg) ≡ None
  router_takes l linked msg tag xs front =
      weights_take w g.weights x r found y e (record { msg = msg; tag = tag }) xs at_end front l.link (in_turn w g.sound g.orderly g.clients g.gaps requests x y r found e at_end l linked tag xs msg front)

  pub oldest_taken : (l : LinkPeer) → link_to r.node.links y ≡ Some l → (msg : Msg) (tag : ℕ) (xs : List Tagged) → e.wire ≡ record { msg = msg; tag = tag } ∷ xs → refuses_of r (From l.link msg) ≡ None
  oldest_taken l linked msg tag xs front = hub_takes r (From l.link msg) (router_takes l linked msg tag xs front)
      (wants_little w g x r found (From l.link msg) (w_handle w x y r e l.link msg tag xs) refl (handle_holds w g.weights x y r found e at_end msg tag xs front l.link))

pub all_taken : (w : WorldState) → Goes w → RequestsAreTaken w → AllAreTaken w
all_taken w g requests x y r s l m more found at_end up front number =
    let j = number_found r y l number in
    subst (λ q. refuses_of r (From q m.msg) ≡ None) j.2 (oldest_taken w g requests x y r found s at_end j.0 j.1 m.msg m.tag more front)

-- ---- moments

pub goes_at : (acts : List Numbered) → IfSome (reached acts) (λ m. Goes m.world)
goes_at acts = at_moments (λ m. Goes m.world) act_goes goes_first acts
