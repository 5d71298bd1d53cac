-- Each act that is not refused keeps what holds of logs (`logs_keep`), and nothing was told of logs before the first line; so it holds at each
-- moment that acts lead to (`logs_stand`).
use Rattle.std.proofs.Common.{◌≡◌, ℕ, Bool, true, false, cond, List, [], Option, Some, None, is_some, refl, sym, ap, ◌∙◌, subst, arith}
use Rattle.std.specs.Prelude.{◌&&◌, IfSome, unwrap_or}
use Rattle.std.specs.Ordering.{nat_cmp}
use Rattle.std.specs.Cmp.Lexicographic.{slice_cmp}
use Rattle.std.specs.BTreeMap.{insert_entry}
use Rattle.std.proofs.lemmas.Bool.{false_from_ne_true, false≢true, and_parts, and_from, or_parts}
use Rattle.zr_lists.proofs.Options.{not_there}
use Rattle.zr_id.specs.Zid.{is_named}
use Rattle.zr_graph.proofs.Names.{same_is}
use Rattle.zr_msg.specs.declared.decl.Kind.{Kind}
use Rattle.zr_msg.specs.declared.decl.Kind.TheVariants as k
use Rattle.zr_msg.specs.declared.msg.Msg.{Msg}
use Rattle.zr_msg.specs.declared.msg.Msg.TheVariants as m
use Rattle.zr_msg.specs.Extras.{no_extras}
use Rattle.zr_msg.specs.declared.event.Event.TheVariants.{From}
use Rattle.zr_msg.specs.declared.peer.Role.TheVariants.{Client}
use Rattle.zr_script_spec.specs.declared.command.Act.{Act}
use Rattle.zr_script_spec.specs.Mode.{is_current, is_future}
use Rattle.zr_script_spec.specs.declared.command.Act.TheVariants as a
use Rattle.zr_log.specs.Known.{AreInOrder}
use Rattle.zr_log.proofs.Logs.{in_order_none}
use Rattle.zr_node_spec.specs.Tables.{free_link}
use Rattle.zr_node_spec.specs.Table.{able_kind, refuses}
use Rattle.zr_world_spec.specs.World.{RouterState, EndState, ClientState, Clients, WorldState, with_routers, with_clients, with_ends, new_router, with_router, router_of, end_of, put_end, new_end, is_up, is_unbroken, is_taken, empty_world, lifted}
use Rattle.zr_world_spec.specs.Acts.{outcome, weighing, peer_of}
use Rattle.zr_world_spec.specs.Moments.{Numbered, Moment, went, reached}
use Rattle.zr_world_spec.specs.Sound.{IsSound}
use Rattle.zr_world_spec.proofs.Names.{value_new, read_kept, read_after}
use Rattle.zr_world_spec.proofs.Cases.{w_sent, w_declare, free_name, number_found, for_router, for_link, for_break, for_declare, for_undeclare, Says, publish_says, get_says, reply_says, end_says, for_take, for_mark, for_show, Weighs, interest_says, uninterest_says}
use Rattle.zr_world_spec.proofs.Telling.{is_told}
use Rattle.zr_world_spec.proofs.Sound.{empty_sound}
use Rattle.zr_law_settled.proofs.Told.{IsTold, by_told, if_sound, reads, told_feeds, of_each, told_way, w_client, w_down, w_handle, for_client, for_up, for_down, for_handle}
use Rattle.zr_law_settled.proofs.Spreading.{Name, is_all, drops_kept}
use Rattle.zr_law_settled.proofs.Moments.{at_moments}
use Rattle.zr_law_settled.proofs.Records.{notes_in}
use Rattle.zr_law_settled.proofs.Worlds.{there_in, table_of, way_of, feeds_of, Holds}
use Rattle.zr_law_settled.proofs.Quiet.{same_way, no_end, passes_there}
use Rattle.zr_law_settled.proofs.Moving.{moves_kept, sent_moves, joined_moves, linked_moves, broken_moves}
use Rattle.zr_law_settled.proofs.Passing.{taken_moves}
use Rattle.zr_law_settled.proofs.Keeping.{Stands, act_stands, empty_holds}
use Rattle.zr_law_settled.proofs.Positions.{places_in}
use Rattle.zr_law_settled.proofs.Logs.{knows_logs, logs_of, log_lane, child_at, feeds_logs, none_made, LogsHold, logs_moved}
use Rattle.zr_law_settled.proofs.LogEvents.{logs_up, logs_joined, logs_down, logs_handled}

-- ---- routers come, and weights and clients change

router_logs : (w : WorldState) → IsSound w → LogsHold w → (id : Name) → is_taken w id ≡ false → LogsHold (with_routers w (insert_entry (slice_cmp nat_cmp) w.routers id (new_router id)))
router_logs w s l id free = record {
  spreads = drops_kept none_made (feeds_logs w) (feeds_logs v) (log_lane w) (log_lane v) l.spreads (record {
    tables = tables;
    part = λ x y. is_all (way_of places_in v.ends x y) (way_of places_in w.ends x y) refl;
    dropped = λ x y z f. (feeds x y z f, same_way z (logs_of w y z).number (way_of places_in v.ends x y) (way_of places_in w.ends x y) refl);
  });
  in_order = λ x r e. order x r (is_named x id) (sym (routers x) ∙ e);
  own_name = λ x r e. name x r (is_named x id) refl (sym (routers x) ∙ e);
}
  where
    v : WorldState
    v = with_routers w (insert_entry (slice_cmp nat_cmp) w.routers id (new_router id))

    no_router : router_of w.routers id ≡ None
    no_router = not_there (router_of w.routers id) (or_parts (is_some (router_of w.routers id)) _ free).0

    routers : (x : Name) → router_of v.routers x ≡ cond (is_named x id) (Some (new_router id)) (router_of w.routers x)
    routers x = value_new w.routers id x (new_router id) no_router

    tables : (x z : Name) → logs_of v x z ≡ logs_of w x z
    tables x z = ap (λ o. knows_logs o z) (routers x) ∙ by (is_named x id) refl
      where
        by : (b : Bool) → is_named x id ≡ b → knows_logs (cond b (Some (new_router id)) (router_of w.routers x)) z ≡ logs_of w x z
        by true e = sym (ap (λ o. knows_logs o z) no_router) ∙ ap (λ q. logs_of w q z) (sym (same_is x id e))
        by false e = refl

    feeds : (x y z : Name) → feeds_logs v z x y ≡ true → feeds_logs w z x y ≡ true
    feeds x y z f =
        let parts = and_parts (feeds_of v z x y) (child_at (router_of v.routers x) z x y) f in
        let outer = and_parts (there_in v y) (is_up w.ends (x, y) && is_unbroken w.ends (x, y)) parts.0 in
        let some = passes_there (λ e. e.up) w.ends (x, y) (and_parts (is_up w.ends (x, y)) (is_unbroken w.ends (x, y)) outer.1).0 in
        let x_apart : is_named x id ≡ false = false_from_ne_true (is_named x id) (λ e. false≢true (sym (ap is_some no_router) ∙ ap (λ q. there_in w q) (sym (same_is x id e)) ∙ s.routers x y some)) in
        let y_apart : is_named y id ≡ false = false_from_ne_true (is_named y id) (λ e. no_end w s id free x (ap (λ q. is_some (end_of w.ends (x, q))) (sym (same_is y id e)) ∙ some)) in
        and_from (feeds_of w z x y) (child_at (router_of w.routers x) z x y)
        (and_from (there_in w y) (is_up w.ends (x, y) && is_unbroken w.ends (x, y))
        (sym (ap is_some (routers y) ∙ ap (λ b. is_some (cond b (Some (new_router id)) (router_of w.routers y))) y_apart) ∙ outer.0) outer.1)
        (sym (ap (λ o. child_at o z x y) (routers x ∙ ap (λ b. cond b (Some (new_router id)) (router_of w.routers x)) x_apart)) ∙ parts.1)

    order : (x : Name) (r : RouterState) (b : Bool) → cond b (Some (new_router id)) (router_of w.routers x) ≡ Some r → AreInOrder r.node.known
    order x r true k = let one : new_router id ≡ r = cc in subst (λ (q : RouterState). AreInOrder q.node.known) one (in_order_none id)
    order x r false k = l.in_order x r k

    name : (x : Name) (r : RouterState) (b : Bool) → is_named x id ≡ b → cond b (Some (new_router id)) (router_of w.routers x) ≡ Some r → r.node.known.me ≡ x
    name x r true e k = let one : new_router id ≡ r = cc in subst (λ (q : RouterState). q.node.known.me ≡ x) one (sym (same_is x id e))
    name x r false e k = l.own_name x r k

weighed_logs : (w : WorldState) → LogsHold w → (a : Name) (r : RouterState) (key : List ℕ) → router_of w.routers a ≡ Some r → LogsHold (with_routers w (with_router w.routers a (weighing r key)))
weighed_logs w l a r key found = record {
  spreads = drops_kept none_made (feeds_logs w) (feeds_logs v) (log_lane w) (log_lane v) l.spreads (record {
    tables = λ x z. keep (λ o. knows_logs o z) refl x;
    part = λ x y. is_all (way_of places_in v.ends x y) (way_of places_in w.ends x y) refl;
    dropped = λ x y z f. (
      sym (ap (λ t. (t && (is_up w.ends (x, y) && is_unbroken w.ends (x, y))) && child_at (router_of v.routers x) z x y) (keep is_some refl y)
          ∙ ap (λ t. (there_in w y && (is_up w.ends (x, y) && is_unbroken w.ends (x, y))) && t) (keep (λ o. child_at o z x y) refl x)) ∙ f,
      same_way z (logs_of w y z).number (way_of places_in v.ends x y) (way_of places_in w.ends x y) refl,
    );
  });
  in_order = λ x q e. order x q (is_named a x) refl (sym (read_after (λ o. o) w.routers a x r (weighing r key) found) ∙ e);
  own_name = λ x q e. name x q (is_named a x) refl (sym (read_after (λ o. o) w.routers a x r (weighing r key) found) ∙ e);
}
  where
    v : WorldState
    v = with_routers w (with_router w.routers a (weighing r key))

    keep : {Y : Type 0} (f : Option RouterState → Y) → f (Some (weighing r key)) ≡ f (Some r) → (x : Name) → f (router_of v.routers x) ≡ f (router_of w.routers x)
    keep f same x = read_kept f w.routers a x r (weighing r key) found same

    order : (x : Name) (q : RouterState) (b : Bool) → is_named a x ≡ b → cond b (Some (weighing r key)) (router_of w.routers x) ≡ Some q → AreInOrder q.node.known
    order x q true e k = let one : weighing r key ≡ q = cc in subst (λ (p : RouterState). AreInOrder p.node.known) one (l.in_order a r found)
    order x q false e k = l.in_order x q k

    name : (x : Name) (q : RouterState) (b : Bool) → is_named a x ≡ b → cond b (Some (weighing r key)) (router_of w.routers x) ≡ Some q → q.node.known.me ≡ x
    name x q true e k = let one : weighing r key ≡ q = cc in subst (λ (p : RouterState). p.node.known.me ≡ x) one (l.own_name a r found ∙ same_is a x e)
    name x q false e k = l.own_name x q k

clients_logs : (w : WorldState) (clients : Clients) → LogsHold w → LogsHold (with_clients w clients)
clients_logs w clients l = record { spreads = l.spreads; in_order = l.in_order; own_name = l.own_name }

-- ---- clients are told

told_places : (msg : Msg) → is_told msg ≡ true → places_in msg ≡ []
told_places = by_told (λ msg. places_in msg ≡ []) (λ id key interest. refl) (λ id key interest. refl) (λ id key complete interest. refl) (λ id. refl) (λ id. refl) (λ id. refl) (λ interest. refl)

pub logs_told : (w v : WorldState) → IsTold w v → LogsHold w → LogsHold v
logs_told w v t l = record {
  spreads = drops_kept none_made (feeds_logs w) (feeds_logs v) (log_lane w) (log_lane v) l.spreads (record {
    tables = λ x z. reads w v t (λ o. knows_logs o z) (λ r. refl) x;
    part = λ x y. is_all (way_of places_in v.ends x y) (way_of places_in w.ends x y) (sym (ways x y));
    dropped = λ x y z f. (sym (feeds x y z) ∙ f, same_way z (logs_of w y z).number (way_of places_in v.ends x y) (way_of places_in w.ends x y) (ways x y));
  });
  in_order = of_each w v t (λ x n. AreInOrder n.known) l.in_order;
  own_name = of_each w v t (λ x n. n.known.me ≡ x) l.own_name;
}
  where
    ways : (x y : Name) → way_of places_in v.ends x y ≡ way_of places_in w.ends x y
    ways = told_way w v t places_in told_places

    feeds : (x y z : Name) → feeds_logs v z x y ≡ feeds_logs w z x y
    feeds x y z = λ i. told_feeds w v t x y z i && reads w v t (λ o. child_at o z x y) (λ r. refl) x i

-- ---- acts

module _ (now : Moment) (sound : IsSound now.world) (h : Holds now.world) (l : LogsHold now.world) where
  abbrev w : WorldState
  w = now.world

  abbrev pub KeptLogs : Moment → Type 0
  KeptLogs next = IsSound next.world → LogsHold next.world

  on_wire : (n : ℕ) (name : List ℕ) (s : ClientState) (e : EndState) → end_of w.ends (s.router, name) ≡ Some e → (msg : Msg) → places_in msg ≡ [] → LogsHold (w_sent w n name s e msg)
  on_wire n name s e found msg silent = logs_moved w _ l (sent_moves places_in (logs_of w) w h.twins s.router name e found msg n silent)

  -- it says something that tells nothing of logs
  says : (n : ℕ) (name : List ℕ) (msg : Msg) → places_in msg ≡ [] → Says now KeptLogs n name msg
  says n name msg silent s found e at_end unbroken clients same sound' = clients_logs _ clients (on_wire n name s e at_end msg silent)

  -- what it says may weigh on its router
  weighs : (n : ℕ) (name key : List ℕ) (msg : Msg) → places_in msg ≡ [] → Weighs now KeptLogs n name key msg
  weighs n name key msg silent s found e at_end unbroken r there room clients same sound' =
      clients_logs _ clients (weighed_logs (w_sent w n name s e msg) (on_wire n name s e at_end msg silent) s.router r key there)

  client_declares : (n : ℕ) (name : List ℕ) (kind : Kind) (id : ℕ) (key : List ℕ) (msg : Msg) → places_in msg ≡ [] → (s : ClientState) (e : EndState) → end_of w.ends (s.router, name) ≡ Some e →
      (r : RouterState) → router_of w.routers s.router ≡ Some r → LogsHold (w_declare w n name kind id key msg s e r)
  client_declares n name kind id key msg silent s e at_end r found =
      clients_logs _ _ (weighed_logs (w_sent w n name s e msg) (on_wire n name s e at_end msg silent) s.router r key found)

  client_comes : (n : ℕ) (id router : List ℕ) (r : RouterState) → router_of w.routers router ≡ Some r → is_taken w id ≡ false → IsSound (w_client w n id router r) → LogsHold (w_client w n id router r)
  client_comes n id router r found free sound' =
      let no_router = (free_name w id free).0 in
      let none = not_there (end_of w.ends (router, id)) (false_from_ne_true _ (no_end w sound id free router)) in
      logs_joined (with_ends w (put_end w.ends (router, id) (lifted (new_end 1)))) (moves_kept w _ h (joined_moves notes_in (table_of w) w h.twins router id none no_router))
      (logs_moved w _ l (joined_moves places_in (logs_of w) w h.twins router id none no_router)) router r found (sound.own router r found)
      (record { 0 = free_link r.node.links }) (record { id = id; role = Client; weight = 1 }) n (w_client w n id router r) refl refl sound'

  pub logs_keep : (n : ℕ) (act : Act) → IfSome (went now (outcome w n act)) KeptLogs
  unfolding outcome
  logs_keep n (a.Router id) = for_router now KeptLogs id (λ free room sound'. router_logs w sound l id free)
  logs_keep n (a.Client id router) = for_client now KeptLogs (if_sound LogsHold (λ w v t s. logs_told w v t)) n id router (λ r found free room taken sound'. client_comes n id router r found free sound')
  logs_keep n (a.Link one other weight) = for_link now KeptLogs one other weight (λ apart r found q found' new room sound'. logs_moved w _ l (linked_moves places_in (logs_of w) w h.twins one other weight (ap is_some found) (ap is_some found') new))
  logs_keep n (a.Up router name) = for_up now KeptLogs (if_sound LogsHold (λ w v t s. logs_told w v t)) n router name (λ r found there s at_end unbroken down taken sound'.
      logs_up w h l router r found (sound.own router r found) name s at_end (record { 0 = free_link r.node.links }) (peer_of w name s.weight) n sound')
  logs_keep n (a.Break router name) = for_break now KeptLogs router name (λ r found there s at_end unbroken sound'. logs_moved w _ l (broken_moves places_in (logs_of w) w h.twins router name))
  logs_keep n (a.Down router name) = for_down now KeptLogs (if_sound LogsHold (λ w v t s. logs_told w v t)) n router name (λ r found there s at_end up cut link number taken.
      let k = number_found r name link number in
      subst (λ q. IsSound (w_down w n router name r q) → LogsHold (w_down w n router name r q)) k.2 (λ sound'. logs_down w h l router r found (sound.own router r found) sound name k.0 k.1 n sound'))
  logs_keep n (a.Sub client id key) = for_declare now KeptLogs n client k.Sub id key (m.Sub id key) (λ s found fresh e at_end unbroken r there room sound'.
      client_declares n client k.Sub id key (m.Sub id key) refl s e at_end r there)
  logs_keep n (a.Unsub client id) = for_undeclare now KeptLogs n client k.Sub id (m.Unsub id) (λ s found known e at_end unbroken sound'. clients_logs _ _ (on_wire n client s e at_end (m.Unsub id) refl))
  logs_keep n (a.Token client id key) = for_declare now KeptLogs n client k.Token id key (m.Token id key) (λ s found fresh e at_end unbroken r there room sound'.
      client_declares n client k.Token id key (m.Token id key) refl s e at_end r there)
  logs_keep n (a.Untoken client id) = for_undeclare now KeptLogs n client k.Token id (m.Untoken id) (λ s found known e at_end unbroken sound'. clients_logs _ _ (on_wire n client s e at_end (m.Untoken id) refl))
  logs_keep n (a.Able client id key complete) = for_declare now KeptLogs n client (able_kind complete) id key (m.Able id key complete) (λ s found fresh e at_end unbroken r there room sound'.
      client_declares n client (able_kind complete) id key (m.Able id key complete) refl s e at_end r there)
  logs_keep n (a.Unable client id) = for_undeclare now KeptLogs n client k.Able id (m.Unable id) (λ s found known e at_end unbroken sound'. clients_logs _ _ (on_wire n client s e at_end (m.Unable id) refl))
  logs_keep n (a.Interest client id mode kinds key aggregate) = interest_says now KeptLogs n client id mode kinds key aggregate
      (says n client (m.Interest id (is_current mode) (is_future mode) kinds key aggregate) refl) (weighs n client (unwrap_or key []) (m.Interest id (is_current mode) (is_future mode) kinds key aggregate) refl)
  logs_keep n (a.Uninterest client id) = uninterest_says now KeptLogs n client id (says n client (m.EndInterest id) refl)
  logs_keep n (a.Publish client content) = publish_says now KeptLogs n client content (says n client (m.Push None content) refl)
  logs_keep n (a.Get client number target content) = get_says now KeptLogs n client number target content (says n client (m.Request None number target content) refl)
  logs_keep n (a.Reply client number content) = reply_says now KeptLogs n client number content (says n client (m.Response number content) refl)
  logs_keep n (a.End client number) = end_says now KeptLogs n client number (says n client (m.Final number no_extras) refl)
  logs_keep n (a.Handle router from) = for_handle now KeptLogs (if_sound LogsHold (λ w v t s. logs_told w v t)) router from (λ r found there s at_end up msg tag xs front link number taken sound'.
      let k = number_found r from link number in
      subst (λ q. refuses r.node (From q msg) ≡ None → IsSound (w_handle w router from r s q msg tag xs) → LogsHold (w_handle w router from r s q msg tag xs)) k.2
      (λ taken' sound''. logs_handled w h l router r found (sound.own router r found) sound from k.0 k.1 s at_end msg tag xs front taken' sound'') taken sound')
  logs_keep n (a.Take router to) = for_take now KeptLogs router to (λ r found there s at_end up unbroken msg tag xs front sound'. clients_logs _ _ (logs_moved w _ l (taken_moves places_in (logs_of w) w h.twins router to s at_end msg tag xs front)))
  logs_keep n a.Mark = for_mark now KeptLogs n (λ settled joined sound'. l)
  logs_keep n (a.Show router) = for_show now KeptLogs router (λ r found sound'. l)

-- ---- moments

pub empty_logs : LogsHold empty_world
empty_logs = record {
  spreads = record {
    fits = λ x z. (omega arith, refl);
    fits_way = λ x y. tt;
    way_le = λ x y z. omega arith;
    told = λ x y z f. absurd (false≢true f);
  };
  in_order = λ x r found. absurd (cc);
  own_name = λ x r found. absurd (cc);
}

-- a sound moment at which what holds of worlds and of logs holds
pub record LogsStand (m : Moment) : Type 0 where
  pub stands : Stands m
  pub logs : LogsHold m.world

pub act_logs : (now : Moment) (n : ℕ) (act : Act) → LogsStand now → IfSome (went now (outcome now.world n act)) LogsStand
act_logs now n act s = both (went now (outcome now.world n act)) (act_stands now n act s.stands) (logs_keep now s.stands.sound s.stands.holds s.logs n act)
  where
    both : (o : Option Moment) → IfSome o Stands → IfSome o (λ next. IsSound next.world → LogsHold next.world) → IfSome o LogsStand
    both None p k = tt
    both (Some next) p k = record { stands = p; logs = k p.sound }

pub logs_stand : (acts : List Numbered) → IfSome (reached acts) LogsStand
logs_stand acts = at_moments LogsStand act_logs (record { stands = record { sound = empty_sound; holds = empty_holds }; logs = empty_logs }) acts
