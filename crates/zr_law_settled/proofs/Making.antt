-- What was made of logs, in worlds (`SetsHold`): each act that is not refused goes on with the history (`sets_keep`), so there is one at each moment
-- that acts lead to (`sets_stand`).
use Rattle.std.proofs.Common.{◌≡◌, ◌≤◌, ℕ, Bool, true, false, cond, List, [], ◌∷◌, ◌++◌, Option, Some, None, is_some, inr, refl, sym, ap, ◌∙◌, subst, arith}
use Rattle.std.specs.Prelude.{IfSome, flat_map, unwrap_or}
use Rattle.std.specs.Option.{option_map_or}
use Rattle.std.specs.Ordering.{nat_cmp}
use Rattle.std.specs.Cmp.Lexicographic.{slice_cmp}
use Rattle.std.specs.BTreeMap.{insert_entry}
use Rattle.std.proofs.lemmas.Bool.{false_from_ne_true, or_parts}
use Rattle.zr_id.specs.Zid.{is_named}
use Rattle.zr_id.specs.declared.link.LinkNo.{LinkNo}
use Rattle.zr_graph.proofs.Names.{same_is, same_refl}
use Rattle.zr_msg.specs.declared.decl.Decl.{Decl}
use Rattle.zr_msg.specs.declared.decl.Kind.{Kind}
use Rattle.zr_msg.specs.declared.decl.Kind.TheVariants as k
use Rattle.zr_msg.specs.declared.msg.Msg.{Msg}
use Rattle.zr_msg.specs.declared.msg.Msg.TheVariants as m
use Rattle.zr_msg.specs.Extras.{no_extras}
use Rattle.zr_msg.specs.declared.event.Event.{Event}
use Rattle.zr_msg.specs.declared.event.Event.TheVariants.{Up, Down, From}
use Rattle.zr_msg.specs.declared.peer.LinkPeer.{LinkPeer}
use Rattle.zr_msg.specs.Peer.{PeerState}
use Rattle.zr_msg.specs.declared.peer.Role.TheVariants.{Client}
use Rattle.zr_script_spec.specs.declared.command.Act.{Act}
use Rattle.zr_script_spec.specs.Mode.{is_current, is_future}
use Rattle.zr_script_spec.specs.declared.command.Act.TheVariants as a
use Rattle.zr_log_set.specs.Decls.{IsSet}
use Rattle.zr_log_set.proofs.Decls.{set_none}
use Rattle.zr_local.specs.Rows.{declared_set}
use Rattle.zr_log.specs.Known.{position, decls}
use Rattle.zr_node_spec.specs.Tables.{link_to, free_link}
use Rattle.zr_node_spec.specs.Changes.{changes}
use Rattle.zr_node_spec.specs.Table.{able_kind, rows_left, sends, after}
use Rattle.zr_lists.proofs.Each.{All-append, All-front, All-back}
use Rattle.zr_lists.proofs.Options.{not_there}
use Rattle.zr_world_spec.specs.World.{Tagged, RouterState, EndState, ClientState, Clients, Ends, WorldState, with_routers, with_clients, with_ends, new_router, with_router, router_of, end_of, is_end, put_end, with_end, with_wire, new_end, is_taken, empty_world, lifted}
use Rattle.zr_world_spec.specs.Acts.{outcome, weighing, peer_of, hearing, sending}
use Rattle.zr_world_spec.specs.Moments.{Numbered, Moment, went, reached}
use Rattle.zr_world_spec.specs.Sound.{IsSound}
use Rattle.zr_world_spec.proofs.Names.{value_new, read_kept, read_after}
use Rattle.zr_world_spec.proofs.Ends.{ends}
use Rattle.zr_world_spec.proofs.Telling.{is_told}
use Rattle.zr_world_spec.proofs.Cases.{w_sent, w_declare, free_name, for_router, for_link, for_break, for_declare, for_undeclare, Says, publish_says, get_says, reply_says, end_says, for_take, for_mark, for_show, Weighs, interest_says, uninterest_says}
use Rattle.zr_law_settled.proofs.Told.{IsTold, by_told, reads, of_each, told_way, w_handle, for_client, for_up, for_down, for_handle}
use Rattle.zr_law_settled.proofs.Spreading.{at_name, Name, Known, Note, IsPart, own}
use Rattle.zr_law_settled.proofs.Moments.{at_moments}
use Rattle.zr_law_settled.proofs.Worlds.{way_of, Holds, sent_at, way_sent, way_other}
use Rattle.zr_law_settled.proofs.Quiet.{no_end}
use Rattle.zr_law_settled.proofs.Moving.{sent_moves, joined_moves, linked_moves, broken_moves, lifted_way}
use Rattle.zr_law_settled.proofs.Passing.{taken_moves, popped_way, emptied_part}
use Rattle.zr_law_settled.proofs.Positions.{Place, placed, position_others}
use Rattle.zr_law_settled.proofs.Children.{rows_grow}
use Rattle.zr_law_settled.proofs.Following.{from_follows}
use Rattle.zr_law_settled.proofs.Heard.{event_stays}
use Rattle.zr_law_settled.proofs.Logs.{knows_logs, logs_of, log_lane, LogsHold}
use Rattle.zr_law_settled.proofs.LogEvents.{first_le}
use Rattle.zr_law_settled.proofs.LogKeeping.{LogsStand, logs_stand, act_logs}
use Rattle.zr_law_settled.proofs.Values.{Brought, brings, Sets, IsMade, AllMade, MadeOn, made_later}
use Rattle.zr_law_settled.proofs.Bringing.{KnowsMade, Brings, all_made, from_brings, up_brings, down_brings}

-- what a router has of a log; one that is not there has nothing
abbrev pub sets_at : Option RouterState → Name → List Decl
sets_at None z = []
sets_at (Some r) z = decls r.node.known z

abbrev pub sets_of : WorldState → Name → Name → List Decl
sets_of w x z = sets_at (router_of w.routers x) z

-- There is a history of sets, which all that is known and under way agrees with, and each router's own set is what its clients have declared.
pub record SetsHold (w : WorldState) : Type 0 where
  pub made : Sets
  pub sets : (z : Name) (n : ℕ) → IsSet (made z n)
  pub none : (z : Name) → made z 0 ≡ []
  pub known : (x z : Name) → sets_of w x z ≡ made z (logs_of w x z).number
  pub way : (x y : Name) → AllMade made (own (log_lane w)) (way_of brings w.ends x y)
  pub rows : (x : Name) (r : RouterState) → router_of w.routers x ≡ Some r → decls r.node.known r.node.known.me ≡ declared_set r.node.rows

-- a part of what was made was made
part_made : (made : Sets) (most : Name → ℕ) (some all : List (Note Brought)) → IsPart some all → AllMade made most all → AllMade made most some
part_made made most some all p h =
    All-front (λ m. (m.known.number ≤ most m.source) × IsMade made m.source m.known.number m.known.value) some p.after
    (All-back (λ m. (m.known.number ≤ most m.source) × IsMade made m.source m.known.number m.known.value) p.before (some ++ p.after) (subst (λ ms. AllMade made most ms) p.whole h))

-- ---- what is under way moves

sets_moved : (w : WorldState) (es : Ends) → SetsHold w → ((x y : Name) → IsPart (way_of brings es x y) (way_of brings w.ends x y)) → SetsHold (with_ends w es)
sets_moved w es s part = record {
  made = s.made;
  sets = s.sets;
  none = s.none;
  known = s.known;
  way = λ x y. part_made s.made (own (log_lane w)) (way_of brings es x y) (way_of brings w.ends x y) (part x y) (s.way x y);
  rows = s.rows;
}

-- a table that no lemma on parts reads
no_table : Name → Name → Known Brought
no_table x z = record { number = 0; value = inr [] }

-- ---- a router hears of an event

module _ (w : WorldState) (l : LogsHold w) (s : SetsHold w) (a : Name) (r : RouterState) (found : router_of w.routers a ≡ Some r) (event : Event) (tag : ℕ) (es : Ends)
    (es_way : (x y : Name) → AllMade s.made (own (log_lane w)) (way_of brings es x y)) (grows : (z : Name) → position r.node.known z ≤ position (after r.node event).known z)
    (foreign : (z : Name) → is_named a z ≡ false → position (after r.node event).known z ≤ own (log_lane w) z) (b : Brings r.node event s.made (own (log_lane w))) where
  abbrev left : WorldState
  left = sending (with_ends w es) a r event tag

  name : r.node.known.me ≡ a
  name = l.own_name a r found

  logs_is : (x z : Name) → logs_of left x z ≡ cond (is_named a x) (placed (position (after r.node event).known z)) (logs_of w x z)
  logs_is x z = read_after (λ o. knows_logs o z) w.routers a x r (hearing r event) found

  sets_is : (x z : Name) → sets_of left x z ≡ cond (is_named a x) (decls (after r.node event).known z) (sets_of w x z)
  sets_is x z = read_after (λ o. sets_at o z) w.routers a x r (hearing r event) found

  here : (z : Name) → (logs_of left a z).number ≡ position (after r.node event).known z
  here z = ap (λ (k : Known Place). k.number) (logs_is a z ∙ ap (λ t. cond t (placed (position (after r.node event).known z)) (logs_of w a z)) (same_refl a))

  other : (x z : Name) → is_named a x ≡ false → (logs_of left x z).number ≡ (logs_of w x z).number
  other x z e = ap (λ (k : Known Place). k.number) (logs_is x z ∙ ap (λ t. cond t (placed (position (after r.node event).known z)) (logs_of w x z)) e)

  before : (z : Name) → (logs_of w a z).number ≡ position r.node.known z
  before z = ap (λ o. (knows_logs o z).number) found

  later : (z : Name) → own (log_lane w) z ≤ own (log_lane left) z
  later z = at_name a (λ q. own (log_lane w) q ≤ own (log_lane left) q) (let n = here a in let o = before a in omega (arith, n, o, grows a)) (λ q e. let n = other q q e in omega (arith, n)) z

  known_le : (z : Name) → position (after r.node event).known z ≤ own (log_lane left) z
  known_le z = at_name a (λ q. position (after r.node event).known q ≤ own (log_lane left) q) (let n = here a in omega (arith, n)) (λ q e. let n = other q q e in omega (arith, n, foreign q e)) z

  -- what a source had made stays
  stays : (z : Name) (n : ℕ) → n ≤ own (log_lane w) z → b.made' z n ≡ s.made z n
  stays z n le = b.old z n (λ e.
      let z_is : a ≡ z = sym name ∙ same_is r.node.known.me z e in
      let mine : own (log_lane w) z ≡ position r.node.known z = ap (λ q. (logs_of w q z).number) (sym z_is) ∙ before z in
      let me_is : position r.node.known r.node.known.me ≡ position r.node.known z = ap (position r.node.known) (name ∙ z_is) in
      omega (arith, le, mine, me_is))

  on : MadeOn s.made b.made' (own (log_lane w)) (own (log_lane left))
  on = record { later = later; stays = stays }

  sent_made : (y : Name) → AllMade b.made' (own (log_lane left)) (sent_at brings (with_ends w es) a r event tag y)
  sent_made y = by (is_some (end_of es (a, y))) (link_to (after r.node event).links y)
    where
      by : (t : Bool) (o : Option LinkPeer) → AllMade b.made' (own (log_lane left)) (flat_map brings (cond t (option_map_or (λ k. sends r.node event k.link) o []) []))
      by true None = tt
      by true (Some k) = all_made r.node event s.made (own (log_lane w)) (own (log_lane left)) b ((event_stays r.node event).order (l.in_order a r found)) later known_le k.link
      by false o = tt

  pub sets_heard : SetsHold left
  sets_heard = record {
    made = b.made';
    sets = b.sets s.sets;
    none = λ z. stays z 0 (omega arith) ∙ s.none z;
    known = λ x z. at_name a (λ q. sets_of left q z ≡ b.made' z (logs_of left q z).number)
        (sets_is a z ∙ ap (λ t. cond t (decls (after r.node event).known z) (sets_of w a z)) (same_refl a) ∙ b.knows.known z ∙ ap (b.made' z) (sym (here z)))
        (λ q e. sets_is q z ∙ ap (λ t. cond t (decls (after r.node event).known z) (sets_of w q z)) e ∙ s.known q z ∙ sym (stays z (logs_of w q z).number (l.spreads.fits q z).0) ∙ ap (b.made' z) (sym (other q z e))) x;
    way = λ x y. at_name a (λ q. AllMade b.made' (own (log_lane left)) (way_of brings left.ends q y))
        (subst (λ ms. AllMade b.made' (own (log_lane left)) ms) (sym (way_sent brings (with_ends w es) a r event tag y))
        (All-append (λ m. (m.known.number ≤ own (log_lane left) m.source) × IsMade b.made' m.source m.known.number m.known.value) (way_of brings es a y) (sent_at brings (with_ends w es) a r event tag y)
        (made_later s.made b.made' (own (log_lane w)) (own (log_lane left)) on (way_of brings es a y) (es_way a y)) (sent_made y)))
        (λ q e. subst (λ ms. AllMade b.made' (own (log_lane left)) ms) (sym (way_other brings (with_ends w es) a r event tag q y e))
        (made_later s.made b.made' (own (log_lane w)) (own (log_lane left)) on (way_of brings es q y) (es_way q y))) x;
    rows = λ x q e. rows x q (is_named a x) (sym (read_after (λ o. o) w.routers a x r (hearing r event) found) ∙ e);
  }
    where
      rows : (x : Name) (q : RouterState) (t : Bool) → cond t (Some (hearing r event)) (router_of w.routers x) ≡ Some q → decls q.node.known q.node.known.me ≡ declared_set q.node.rows
      rows x q true e = let one : hearing r event ≡ q = cc in subst (λ (p : RouterState). decls p.node.known p.node.known.me ≡ declared_set p.node.rows) one b.knows.rows
      rows x q false e = s.rows x q e

-- ---- routers come, and weights and clients change

router_sets : (w : WorldState) → SetsHold w → (id : Name) → is_taken w id ≡ false → SetsHold (with_routers w (insert_entry (slice_cmp nat_cmp) w.routers id (new_router id)))
router_sets w s id free = record {
  made = s.made;
  sets = s.sets;
  none = s.none;
  known = λ x z. ap (λ o. sets_at o z) (routers x) ∙ known x z (is_named x id) ∙ ap (s.made z) (sym (ap (λ o. (knows_logs o z).number) (routers x)));
  way = λ x y. made_later s.made s.made (own (log_lane w)) (own (log_lane v)) (record { later = λ z. let e = same_own z in omega (arith, e); stays = λ z n le. refl }) (way_of brings w.ends x y) (s.way x y);
  rows = λ x r e. rows x r (is_named x id) (sym (routers x) ∙ e);
}
  where
    v : WorldState
    v = with_routers w (insert_entry (slice_cmp nat_cmp) w.routers id (new_router id))

    no_router : router_of w.routers id ≡ None
    no_router = not_there (router_of w.routers id) (or_parts (is_some (router_of w.routers id)) _ free).0

    routers : (x : Name) → router_of v.routers x ≡ cond (is_named x id) (Some (new_router id)) (router_of w.routers x)
    routers x = value_new w.routers id x (new_router id) no_router

    known : (x z : Name) (t : Bool) → sets_at (cond t (Some (new_router id)) (router_of w.routers x)) z ≡ s.made z (knows_logs (cond t (Some (new_router id)) (router_of w.routers x)) z).number
    known x z true = sym (s.none z)
    known x z false = s.known x z

    same_own : (z : Name) → own (log_lane w) z ≡ own (log_lane v) z
    same_own z = by (is_named z id) refl ∙ sym (ap (λ o. (knows_logs o z).number) (routers z))
      where
        by : (t : Bool) → is_named z id ≡ t → own (log_lane w) z ≡ (knows_logs (cond t (Some (new_router id)) (router_of w.routers z)) z).number
        by true e = ap (λ q. (logs_of w q z).number) (same_is z id e) ∙ ap (λ o. (knows_logs o z).number) no_router
        by false e = refl

    rows : (x : Name) (r : RouterState) (t : Bool) → cond t (Some (new_router id)) (router_of w.routers x) ≡ Some r → decls r.node.known r.node.known.me ≡ declared_set r.node.rows
    rows x r true e = let one : new_router id ≡ r = cc in subst (λ (q : RouterState). decls q.node.known q.node.known.me ≡ declared_set q.node.rows) one refl
    rows x r false e = s.rows x r e

weighed_sets : (w : WorldState) → SetsHold w → (a : Name) (r : RouterState) (key : List ℕ) → router_of w.routers a ≡ Some r → SetsHold (with_routers w (with_router w.routers a (weighing r key)))
weighed_sets w s a r key found = record {
  made = s.made;
  sets = s.sets;
  none = s.none;
  known = λ x z. keep (λ o. sets_at o z) refl x ∙ s.known x z ∙ ap (s.made z) (sym (keep (λ o. (knows_logs o z).number) refl x));
  way = λ x y. made_later s.made s.made (own (log_lane w)) (own (log_lane v)) (record { later = λ z. let e = keep (λ o. (knows_logs o z).number) refl z in omega (arith, e); stays = λ z n le. refl }) (way_of brings w.ends x y) (s.way x y);
  rows = λ x q e. rows x q (is_named a x) (sym (read_after (λ o. o) w.routers a x r (weighing r key) found) ∙ e);
}
  where
    v : WorldState
    v = with_routers w (with_router w.routers a (weighing r key))

    keep : {Y : Type 0} (f : Option RouterState → Y) → f (Some (weighing r key)) ≡ f (Some r) → (x : Name) → f (router_of v.routers x) ≡ f (router_of w.routers x)
    keep f same x = read_kept f w.routers a x r (weighing r key) found same

    rows : (x : Name) (q : RouterState) (t : Bool) → cond t (Some (weighing r key)) (router_of w.routers x) ≡ Some q → decls q.node.known q.node.known.me ≡ declared_set q.node.rows
    rows x q true e = let one : weighing r key ≡ q = cc in subst (λ (p : RouterState). decls p.node.known p.node.known.me ≡ declared_set p.node.rows) one (s.rows a r found)
    rows x q false e = s.rows x q e

clients_sets : (w : WorldState) (clients : Clients) → SetsHold w → SetsHold (with_clients w clients)
clients_sets w clients s = record { made = s.made; sets = s.sets; none = s.none; known = s.known; way = s.way; rows = s.rows }

-- ---- clients are told

told_brings : (msg : Msg) → is_told msg ≡ true → brings msg ≡ []
told_brings = by_told (λ msg. brings msg ≡ []) (λ id key interest. refl) (λ id key interest. refl) (λ id key complete interest. refl) (λ id. refl) (λ id. refl) (λ id. refl) (λ interest. refl)

pub sets_told : (w v : WorldState) → IsTold w v → SetsHold w → SetsHold v
sets_told w v t s = record {
  made = s.made;
  sets = s.sets;
  none = s.none;
  known = λ x z. reads w v t (λ o. sets_at o z) (λ r. refl) x ∙ s.known x z ∙ ap (s.made z) (sym (number x z));
  way = λ x y. made_later s.made s.made (own (log_lane w)) (own (log_lane v)) (record { later = λ z. let e = number z z in omega (arith, e); stays = λ z n le. refl }) (way_of brings v.ends x y)
      (subst (λ ms. AllMade s.made (own (log_lane w)) ms) (sym (told_way w v t brings told_brings x y)) (s.way x y));
  rows = of_each w v t (λ x n. decls n.known n.known.me ≡ declared_set n.rows) s.rows;
}
  where
    number : (x z : Name) → (logs_of v x z).number ≡ (logs_of w x z).number
    number x z = reads w v t (λ o. (knows_logs o z).number) (λ r. refl) x

-- ---- acts

module _ (now : Moment) (sound : IsSound now.world) (h : Holds now.world) (l : LogsHold now.world) (s : SetsHold now.world) where
  abbrev w : WorldState
  w = now.world

  abbrev pub KeptSets : Moment → Type 0
  KeptSets next = SetsHold next.world

  on_wire : (n : ℕ) (name : List ℕ) (c : ClientState) (e : EndState) → end_of w.ends (c.router, name) ≡ Some e → (msg : Msg) → brings msg ≡ [] → SetsHold (w_sent w n name c e msg)
  on_wire n name c e found msg silent = sets_moved w _ s ((sent_moves brings no_table w h.twins c.router name e found msg n silent).part)

  -- it says something that brings nothing of logs
  says : (n : ℕ) (name : List ℕ) (msg : Msg) → brings msg ≡ [] → Says now KeptSets n name msg
  says n name msg silent c found e at_end unbroken clients same = clients_sets _ clients (on_wire n name c e at_end msg silent)

  -- what it says may weigh on its router
  weighs : (n : ℕ) (name key : List ℕ) (msg : Msg) → brings msg ≡ [] → Weighs now KeptSets n name key msg
  weighs n name key msg silent c found e at_end unbroken r there room clients same =
      clients_sets _ clients (weighed_sets (w_sent w n name c e msg) (on_wire n name c e at_end msg silent) c.router r key there)

  client_declares : (n : ℕ) (name : List ℕ) (kind : Kind) (id : ℕ) (key : List ℕ) (msg : Msg) → brings msg ≡ [] → (c : ClientState) (e : EndState) → end_of w.ends (c.router, name) ≡ Some e →
      (r : RouterState) → router_of w.routers c.router ≡ Some r → SetsHold (w_declare w n name kind id key msg c e r)
  client_declares n name kind id key msg silent c e at_end r found =
      clients_sets _ _ (weighed_sets (w_sent w n name c e msg) (on_wire n name c e at_end msg silent) c.router r key found)

  me_is : (a : Name) (r : RouterState) → router_of w.routers a ≡ Some r → r.node.known.me ≡ r.node.base.me
  me_is a r found = l.own_name a r found ∙ sym (sound.own a r found)

  knows : (a : Name) (r : RouterState) → router_of w.routers a ≡ Some r → KnowsMade s.made r.node
  knows a r found = record {
    known = λ z. sym (ap (λ o. sets_at o z) found) ∙ s.known a z ∙ ap (λ o. s.made z (knows_logs o z).number) found;
    rows = s.rows a r found;
  }

  -- what a router knows of another log is no more than its router made
  known_before : (a : Name) (r : RouterState) → router_of w.routers a ≡ Some r → (z : Name) → position r.node.known z ≤ own (log_lane w) z
  known_before a r found z = let e : (logs_of w a z).number ≡ position r.node.known z = ap (λ o. (knows_logs o z).number) found in omega (arith, e, (l.spreads.fits a z).0)

  hears_up : (a : Name) (r : RouterState) → router_of w.routers a ≡ Some r → (link : LinkNo) (peer : PeerState) (tag : ℕ) (es : Ends) → ((x y : Name) → AllMade s.made (own (log_lane w)) (way_of brings es x y)) →
      SetsHold (sending (with_ends w es) a r (Up link peer) tag)
  hears_up a r found link peer tag es ways =
      sets_heard w l s a r found (Up link peer) tag es ways (λ z. let e : position (after r.node (Up link peer)).known z ≡ position r.node.known z = refl in omega (arith, e)) (λ z e. known_before a r found z) (up_brings r.node s.made (own (log_lane w)) (knows a r found) (me_is a r found) link peer)

  -- a message is handled
  handled : (router from : Name) (r : RouterState) → router_of w.routers router ≡ Some r → (at : EndState) → end_of w.ends (router, from) ≡ Some at → (msg : Msg) (tag : ℕ) (xs : List Tagged) →
      at.wire ≡ record { msg = msg; tag = tag } ∷ xs → (link : LinkNo) → SetsHold (w_handle w router from r at link msg tag xs)
  handled router from r found at at_end msg tag xs front link =
      sets_heard w l s router r found (From link msg) tag es rest (λ z. (from_follows r.node (me_is router r found) link msg).grows z) foreign
      (from_brings r.node s.made (own (log_lane w)) (knows router r found) (me_is router r found) s.sets link msg came)
    where
      es : Ends
      es = with_end w.ends (router, from) (with_wire at xs)

      rest : (x y : Name) → AllMade s.made (own (log_lane w)) (way_of brings es x y)
      rest x y = All-back (λ q. (q.known.number ≤ own (log_lane w) q.source) × IsMade s.made q.source q.known.number q.known.value) (cond (is_end (router, from) (y, x)) (brings msg) []) (way_of brings es x y)
          (subst (λ ms. AllMade s.made (own (log_lane w)) ms) (popped_way brings w.ends router from at at_end msg tag xs front x y) (s.way x y))

      came : AllMade s.made (own (log_lane w)) (brings msg)
      came = All-front (λ q. (q.known.number ≤ own (log_lane w) q.source) × IsMade s.made q.source q.known.number q.known.value) (brings msg) (way_of brings es from router)
          (subst (λ ms. AllMade s.made (own (log_lane w)) ms) (popped_way brings w.ends router from at at_end msg tag xs front from router ∙ ap (λ t. cond t (brings msg) [] ++ way_of brings es from router) (ends.refl (router, from))) (s.way from router))

      foreign : (z : Name) → is_named router z ≡ false → position (after r.node (From link msg)).known z ≤ own (log_lane w) z
      foreign z e = omega (
        arith,
        (from_follows r.node (me_is router r found) link msg).others z (ap (λ q. is_named q z) (l.own_name router r found) ∙ e),
        known_before router r found z,
        first_le w l router from at at_end msg tag xs front z,
      )

  pub sets_keep : (n : ℕ) (act : Act) → IfSome (went now (outcome w n act)) KeptSets
  unfolding outcome sets_moved
  sets_keep n (a.Router id) = for_router now KeptSets id (λ free room. router_sets w s id free)
  sets_keep n (a.Client id router) = for_client now KeptSets (λ w v report t. sets_told w v t) n id router (λ r found free room taken.
      let no_router = (free_name w id free).0 in
      let none = not_there (end_of w.ends (router, id)) (false_from_ne_true _ (no_end w sound id free router)) in
      clients_sets _ _ (hears_up router r found (record { 0 = free_link r.node.links }) (record { id = id; role = Client; weight = 1 }) n (put_end w.ends (router, id) (lifted (new_end 1)))
      (sets_moved w _ s ((joined_moves brings no_table w h.twins router id none no_router).part)).way))
  sets_keep n (a.Link one other weight) = for_link now KeptSets one other weight (λ apart r found q found' new room. sets_moved w _ s ((linked_moves brings no_table w h.twins one other weight (ap is_some found) (ap is_some found') new).part))
  sets_keep n (a.Up router name) = for_up now KeptSets (λ w v report t. sets_told w v t) n router name (λ r found there at at_end unbroken down taken.
      hears_up router r found (record { 0 = free_link r.node.links }) (peer_of w name at.weight) n _ (λ x y. subst (λ ms. AllMade s.made (own (log_lane w)) ms) (sym (lifted_way brings w.ends router name at at_end x y)) (s.way x y)))
  sets_keep n (a.Break router name) = for_break now KeptSets router name (λ r found there at at_end unbroken. sets_moved w _ s ((broken_moves brings no_table w h.twins router name).part))
  sets_keep n (a.Down router name) = for_down now KeptSets (λ w v report t. sets_told w v t) n router name (λ r found there at at_end up cut link number taken.
      let part : SetsHold (sending w router r (Down link) n) = sets_heard w l s router r found (Down link) n w.ends s.way (rows_grow r.node (me_is router r found) (rows_left r.node link.0))
      (λ z e. let o : position (after r.node (Down link)).known z ≡ position r.node.known z = position_others r.node.known (changes r.node.rows (rows_left r.node link.0)) z (ap (λ q. is_named q z) (l.own_name router r found) ∙ e) in omega (arith, o, known_before router r found z))
      (down_brings r.node s.made (own (log_lane w)) (knows router r found) (me_is router r found) link) in
      sets_moved (sending w router r (Down link) n) _ part (emptied_part brings (sending w router r (Down link) n).ends router name))
  sets_keep n (a.Sub client id key) = for_declare now KeptSets n client k.Sub id key (m.Sub id key) (λ c found fresh e at_end unbroken r there room. client_declares n client k.Sub id key (m.Sub id key) refl c e at_end r there)
  sets_keep n (a.Unsub client id) = for_undeclare now KeptSets n client k.Sub id (m.Unsub id) (λ c found known e at_end unbroken. clients_sets _ _ (on_wire n client c e at_end (m.Unsub id) refl))
  sets_keep n (a.Token client id key) = for_declare now KeptSets n client k.Token id key (m.Token id key) (λ c found fresh e at_end unbroken r there room. client_declares n client k.Token id key (m.Token id key) refl c e at_end r there)
  sets_keep n (a.Untoken client id) = for_undeclare now KeptSets n client k.Token id (m.Untoken id) (λ c found known e at_end unbroken. clients_sets _ _ (on_wire n client c e at_end (m.Untoken id) refl))
  sets_keep n (a.Able client id key complete) =
      for_declare now KeptSets n client (able_kind complete) id key (m.Able id key complete) (λ c found fresh e at_end unbroken r there room. client_declares n client (able_kind complete) id key (m.Able id key complete) refl c e at_end r there)
  sets_keep n (a.Unable client id) = for_undeclare now KeptSets n client k.Able id (m.Unable id) (λ c found known e at_end unbroken. clients_sets _ _ (on_wire n client c e at_end (m.Unable id) refl))
  sets_keep n (a.Interest client id mode kinds key aggregate) = interest_says now KeptSets n client id mode kinds key aggregate
      (says n client (m.Interest id (is_current mode) (is_future mode) kinds key aggregate) refl) (weighs n client (unwrap_or key []) (m.Interest id (is_current mode) (is_future mode) kinds key aggregate) refl)
  sets_keep n (a.Uninterest client id) = uninterest_says now KeptSets n client id (says n client (m.EndInterest id) refl)
  sets_keep n (a.Publish client content) = publish_says now KeptSets n client content (says n client (m.Push None content) refl)
  sets_keep n (a.Get client number target content) = get_says now KeptSets n client number target content (says n client (m.Request None number target content) refl)
  sets_keep n (a.Reply client number content) = reply_says now KeptSets n client number content (says n client (m.Response number content) refl)
  sets_keep n (a.End client number) = end_says now KeptSets n client number (says n client (m.Final number no_extras) refl)
  sets_keep n (a.Handle router from) = for_handle now KeptSets (λ w v report t. sets_told w v t) router from (λ r found there at at_end up msg tag xs front link number taken. handled router from r found at at_end msg tag xs front link)
  sets_keep n (a.Take router to) = for_take now KeptSets router to (λ r found there at at_end up unbroken msg tag xs front. clients_sets _ _ (sets_moved w _ s ((taken_moves brings no_table w h.twins router to at at_end msg tag xs front).part)))
  sets_keep n a.Mark = for_mark now KeptSets n (λ settled joined. s)
  sets_keep n (a.Show router) = for_show now KeptSets router (λ r found. s)

-- ---- moments

pub empty_sets : SetsHold empty_world
empty_sets = record { made = λ z n. []; sets = λ z n. set_none; none = λ z. refl; known = λ x z. refl; way = λ x y. tt; rows = λ x r found. absurd (cc) }

-- a moment at which logs stand and sets hold
pub record SetsStand (m : Moment) : Type 0 where
  pub logs : LogsStand m
  pub sets : SetsHold m.world

act_sets : (now : Moment) (n : ℕ) (act : Act) → SetsStand now → IfSome (went now (outcome now.world n act)) SetsStand
act_sets now n act s = both (went now (outcome now.world n act)) (act_logs now n act s.logs) (sets_keep now s.logs.stands.sound s.logs.stands.holds s.logs.logs s.sets n act)
  where
    both : (o : Option Moment) → IfSome o LogsStand → IfSome o (λ next. SetsHold next.world) → IfSome o SetsStand
    both None p k = tt
    both (Some next) p k = record { logs = p; sets = k }

pub sets_stand : (acts : List Numbered) → IfSome (reached acts) SetsStand
sets_stand acts = at_moments SetsStand act_sets (record { logs = logs_stand []; sets = empty_sets }) acts
