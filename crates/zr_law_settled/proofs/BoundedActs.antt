-- What is bounded by how many acts a world has taken: each router's own number, which steps leave as it is; and how many routers there are, at all.
use Rattle.std.proofs.Common.{◌≡◌, ◌≤◌, ◌<◌, ◌+◌, ℕ, Bool, true, false, cond, List, [], length, Option, Some, None, sym, ap, ◌∙◌, subst, arith}
use Rattle.std.specs.Prelude.{IfSome, unwrap_or}
use Rattle.std.specs.BTreeMap.{insert_entry}
use Rattle.std.specs.Ordering.{nat_cmp}
use Rattle.std.specs.Cmp.Lexicographic.{slice_cmp}
use Rattle.std.proofs.lemmas.Bool.{leb-false}
use Rattle.std.proofs.lemmas.List.{length-map}
use Rattle.std.proofs.lemmas.Map.{length-set_value}
use Rattle.zr_lists.proofs.Options.{not_there}
use Rattle.zr_lists.proofs.Entries.{length_inserted}
use Rattle.zr_id.specs.Zid.{is_named}
use Rattle.zr_msg.specs.declared.decl.Kind.TheVariants as k
use Rattle.zr_msg.specs.declared.msg.Msg.TheVariants as m
use Rattle.zr_msg.specs.declared.event.Event.{Event}
use Rattle.zr_msg.specs.declared.event.Event.TheVariants.{Down, From}
use Rattle.zr_msg.specs.declared.peer.Role.TheVariants.{Client}
use Rattle.zr_script_spec.specs.declared.command.Act.{Act}
use Rattle.zr_script_spec.specs.declared.command.Act.TheVariants as a
use Rattle.zr_script_spec.specs.declared.report.ReportLine.{ReportLine}
use Rattle.zr_node_spec.specs.Table.{able_kind, after}
use Rattle.zr_world_spec.specs.World.{RouterState, Routers, WorldState, router_of, with_router, new_router, most_routers}
use Rattle.zr_world_spec.specs.Acts.{outcome, hearing, weighing, up_event, peer_of}
use Rattle.zr_world_spec.specs.Moments.{Moment, is_step, went}
use Rattle.zr_world_spec.proofs.Names.{value_new, read_after}
use Rattle.zr_world_spec.proofs.Cases.{free_name, for_router, for_link, for_break, for_declare, for_undeclare, publish_says, get_says, reply_says, end_says, for_take, for_mark, for_show, interest_says, uninterest_says}
use Rattle.zr_law_settled.proofs.Told.{IsTold, of_each, for_client, for_up, for_down, for_handle}
use Rattle.zr_law_settled.proofs.Spreading.{Name}
use Rattle.zr_law_settled.proofs.Bounds.{IsBounded, cost, bounded_after, bounded_fresh, bounded_later}

-- routers are few, and the own record of each is bounded
pub record AreBounded (n : ℕ) (routers : Routers) : Type 0 where
  pub few : length routers ≤ most_routers
  pub each : (x : Name) (r : RouterState) → router_of routers x ≡ Some r → IsBounded n r.node.base

pub bounded_first : AreBounded 0 []
bounded_first = record { few = omega arith; each = λ x r found. absurd (cc) }

pub later : (n m : ℕ) (routers : Routers) → n ≤ m → AreBounded n routers → AreBounded m routers
later n m routers le h = record { few = h.few; each = λ x r found. bounded_later n m r.node.base le (h.each x r found) }

-- one router has another state
bounded_set : (n m : ℕ) (routers : Routers) (x : Name) (r r' : RouterState) → router_of routers x ≡ Some r → n ≤ m → AreBounded n routers → IsBounded m r'.node.base → AreBounded m (with_router routers x r')
bounded_set n m routers x r r' found le h new = record {
  few = let e = length-set_value (is_named x) routers r' in omega (arith, e, h.few);
  each = λ y q there. by y q (is_named x y) (sym (read_after (λ o. o) routers x y r r' found) ∙ there);
}
  where
    by : (y : Name) (q : RouterState) (t : Bool) → cond t (Some r') (router_of routers y) ≡ Some q → IsBounded m q.node.base
    by y q true k = let one : r' ≡ q = cc in subst (λ (s : RouterState). IsBounded m s.node.base) one new
    by y q false k = bounded_later n m q.node.base le (h.each y q k)

bounded_new : (n : ℕ) (routers : Routers) (id : Name) → router_of routers id ≡ None → length routers < most_routers → AreBounded n routers →
    AreBounded n (insert_entry (slice_cmp nat_cmp) routers id (new_router id))
bounded_new n routers id free room h = record {
  few = omega (arith, length_inserted (slice_cmp nat_cmp) routers id (new_router id), room);
  each = λ y q there. by y q (is_named y id) (sym (value_new routers id y (new_router id) free) ∙ there);
}
  where
    by : (y : Name) (q : RouterState) (t : Bool) → cond t (Some (new_router id)) (router_of routers y) ≡ Some q → IsBounded n q.node.base
    by y q true k = let one : new_router id ≡ q = cc in subst (λ (s : RouterState). IsBounded n s.node.base) one (bounded_fresh n id)
    by y q false k = h.each y q k

-- clients are told
told_bounded : (n : ℕ) (w v : WorldState) → IsTold w v → AreBounded n w.routers → AreBounded n v.routers
told_bounded n w v t h = record {
  few = let e : length v.routers ≡ length w.routers = sym (length-map v.routers (λ e. e.0)) ∙ ap length t.names ∙ length-map w.routers (λ e. e.0) in omega (arith, e, h.few);
  each = of_each w v t (λ x b. IsBounded n b.base) h.each;
}

-- ---- acts

-- what an act may add
abbrev weight : Act → ℕ
weight act = cond (is_step act) 0 1

module _ (n : ℕ) (now : Moment) (h : AreBounded n now.world.routers) where
  abbrev w : WorldState
  w = now.world

  hears : (m : ℕ) (x : Name) (r : RouterState) → router_of w.routers x ≡ Some r → (event : Event) → n + cost event ≤ m → AreBounded m (with_router w.routers x (hearing r event))
  hears m x r found event le = bounded_set n m w.routers x r (hearing r event) found (omega (arith, le)) h
      (bounded_later (n + cost event) m (after r.node event).base le (bounded_after n r.node (h.each x r found) event))

  abbrev Bound : ℕ → Moment → Type 0
  Bound m next = AreBounded m next.world.routers

  bounded_told : (m : ℕ) (u v : WorldState) (report : List ReportLine) → IsTold u v → AreBounded m u.routers → AreBounded m v.routers
  bounded_told m u v report t k = told_bounded m u v t k

  stays : AreBounded (n + 1) w.routers
  stays = later n (n + 1) w.routers (omega arith) h

  heavier : (x : Name) (key : List ℕ) (r : RouterState) → router_of w.routers x ≡ Some r → AreBounded (n + 1) (with_router w.routers x (weighing r key))
  heavier x key r there = bounded_set n (n + 1) w.routers x r (weighing r key) there (omega arith) h (bounded_later n (n + 1) r.node.base (omega arith) (h.each x r there))

  rests : AreBounded (n + 0) w.routers
  rests = later n (n + 0) w.routers (omega arith) h

  pub act_bounded : (line : ℕ) (act : Act) → IfSome (went now (outcome w line act)) (Bound (n + weight act))
  unfolding outcome
  act_bounded line (a.Router id) = for_router now (Bound (n + 1)) id (λ free room.
      let lt : length w.routers < most_routers = leb-false most_routers (length w.routers) room in
      later n (n + 1) _ (omega arith) (bounded_new n w.routers id (not_there (router_of w.routers id) (free_name w id free).0) lt h))
  act_bounded line (a.Client id router) = for_client now (Bound (n + 1)) (bounded_told (n + 1)) line id router (λ r found free room taken. hears (n + 1) router r found (up_event r (record { id = id; role = Client; weight = 1 })) (omega arith))
  act_bounded line (a.Link one other weight) = for_link now (Bound (n + 1)) one other weight (λ apart r found q found' new room. stays)
  act_bounded line (a.Up router name) = for_up now (Bound (n + 1)) (bounded_told (n + 1)) line router name (λ r found there s at_end unbroken down taken. hears (n + 1) router r found (up_event r (peer_of w name s.weight)) (omega arith))
  act_bounded line (a.Break router name) = for_break now (Bound (n + 1)) router name (λ r found there s at_end unbroken. stays)
  act_bounded line (a.Down router name) = for_down now (Bound (n + 1)) (bounded_told (n + 1)) line router name (λ r found there s at_end up cut l number taken. hears (n + 1) router r found (Down l) (omega arith))
  act_bounded line (a.Sub client id key) = for_declare now (Bound (n + 1)) line client k.Sub id key (m.Sub id key) (λ s found fresh e at_end unbroken r there weighs. heavier s.router key r there)
  act_bounded line (a.Unsub client id) = for_undeclare now (Bound (n + 1)) line client k.Sub id (m.Unsub id) (λ s found known e at_end unbroken. stays)
  act_bounded line (a.Token client id key) = for_declare now (Bound (n + 1)) line client k.Token id key (m.Token id key) (λ s found fresh e at_end unbroken r there weighs. heavier s.router key r there)
  act_bounded line (a.Untoken client id) = for_undeclare now (Bound (n + 1)) line client k.Token id (m.Untoken id) (λ s found known e at_end unbroken. stays)
  act_bounded line (a.Able client id key complete) = for_declare now (Bound (n + 1)) line client (able_kind complete) id key (m.Able id key complete) (λ s found fresh e at_end unbroken r there weighs. heavier s.router key r there)
  act_bounded line (a.Unable client id) = for_undeclare now (Bound (n + 1)) line client k.Able id (m.Unable id) (λ s found known e at_end unbroken. stays)
  act_bounded line (a.Interest client id mode kinds key aggregate) = interest_says now (Bound (n + 1)) line client id mode kinds key aggregate (λ s found e at_end unbroken clients same. stays)
      (λ s found e at_end unbroken r there room clients same. heavier s.router (unwrap_or key []) r there)
  act_bounded line (a.Uninterest client id) = uninterest_says now (Bound (n + 1)) line client id (λ s found e at_end unbroken clients same. stays)
  act_bounded line (a.Publish client content) = publish_says now (Bound (n + 1)) line client content (λ s found e at_end unbroken clients same. stays)
  act_bounded line (a.Get client number target content) = get_says now (Bound (n + 1)) line client number target content (λ s found e at_end unbroken clients same. stays)
  act_bounded line (a.Reply client number content) = reply_says now (Bound (n + 1)) line client number content (λ s found e at_end unbroken clients same. stays)
  act_bounded line (a.End client number) = end_says now (Bound (n + 1)) line client number (λ s found e at_end unbroken clients same. stays)
  act_bounded line (a.Handle router from) = for_handle now (Bound (n + 0)) (bounded_told (n + 0)) router from (λ r found there s at_end up msg tag xs front l number taken. hears (n + 0) router r found (From l msg) (omega arith))
  act_bounded line (a.Take router to) = for_take now (Bound (n + 0)) router to (λ r found there s at_end up unbroken msg tag xs front. rests)
  act_bounded line a.Mark = for_mark now (Bound (n + 1)) line (λ settled joined. stays)
  act_bounded line (a.Show router) = for_show now (Bound (n + 1)) router (λ r found. stays)

-- an act raises them by one at most
pub bounded_on : (n : ℕ) (now : Moment) → AreBounded n now.world.routers → (line : ℕ) (act : Act) → IfSome (went now (outcome now.world line act)) (λ next. AreBounded (n + 1) next.world.routers)
bounded_on n now h line act = by (went now (outcome now.world line act)) (act_bounded n now h line act)
  where
    most : n + weight act ≤ n + 1
    most = at (is_step act)
      where
        at : (t : Bool) → n + cond t 0 1 ≤ n + 1
        at true = omega arith
        at false = omega arith

    by : (o : Option Moment) → IfSome o (λ next. AreBounded (n + weight act) next.world.routers) → IfSome o (λ next. AreBounded (n + 1) next.world.routers)
    by None k = tt
    by (Some next) k = later (n + weight act) (n + 1) next.world.routers most k

-- and a step doesn't
pub bounded_by_step : (n : ℕ) (now : Moment) → AreBounded n now.world.routers → (line : ℕ) (act : Act) → is_step act ≡ true → IfSome (went now (outcome now.world line act)) (λ next. AreBounded n next.world.routers)
bounded_by_step n now h line act step =
    subst (λ m. IfSome (went now (outcome now.world line act)) (λ next. AreBounded m next.world.routers)) none (act_bounded n now h line act)
  where
    none : n + weight act ≡ n
    none = ap (λ t. n + cond t 0 1) step ∙ omega arith
