-- A world as what spreads in it of logs: how much of each log each router knows (`logs_of`), the changes and snapshots on the way, and over
-- which links they go (`feeds_logs`): where records go, and the neighbour is a child in the tree of the log's router, by the records of the
-- router that tells it. Here what is under way moves (`logs_moved`), and a router hears of an event (`heard_spreads`).
use Rattle.std.proofs.Common.{◌≡◌, ◌≤◌, ℕ, max, Bool, true, false, cond, List, [], ◌∷◌, ◌++◌, Option, Some, None, is_some, ◌⊎◌, inl, inr, refl, sym, ap, ◌∙◌, arith}
use Rattle.std.specs.Prelude.{◌&&◌}
use Rattle.std.specs.Option.{option_map_or}
use Rattle.std.proofs.lemmas.Bool.{and_parts, and_from}
use Rattle.zr_id.specs.Zid.{is_named}
use Rattle.zr_id.specs.Record.{linked_ids}
use Rattle.zr_graph.specs.Record.{has, lists, has_edge}
use Rattle.zr_graph.proofs.Names.{same_refl}
use Rattle.zr_tree.specs.Walk.{graph_of}
use Rattle.zr_lists.proofs.Finds.{in_filter}
use Rattle.zr_tree.proofs.Branches.{child_is, parent_is}
use Rattle.zr_msg.specs.declared.event.Event.{Event}
use Rattle.zr_msg.specs.declared.peer.LinkPeer.{LinkPeer}
use Rattle.zr_log.specs.Known.{AreInOrder, position}
use Rattle.zr_node_spec.specs.Tables.{link_at, link_to, is_router}
use Rattle.zr_node_spec.specs.Table.{sends, after}
use Rattle.zr_world_spec.specs.World.{RouterState, Ends, WorldState, with_ends, router_of, end_of, is_up, is_unbroken}
use Rattle.zr_world_spec.specs.Acts.{hearing, sending}
use Rattle.zr_world_spec.proofs.Names.{read_after}
use Rattle.zr_law_settled.proofs.Spreading.{at_name, Name, Known, Note, Made, Lane, Feeds, own, best, AllFit, Spreads, goes_on_kept, drops_kept, best_append, best_head}
use Rattle.zr_law_settled.proofs.Worlds.{there_in, knows, table_of, way_of, feeds_of, Holds, sent_at, way_sent, way_other, sent_there}
use Rattle.zr_law_settled.proofs.Moving.{Moves, fed_before}
use Rattle.zr_law_settled.proofs.Rest.{lists_known}
use Rattle.zr_law_settled.proofs.Positions.{Place, placed, places_in, places}
use Rattle.zr_law_settled.proofs.Children.{child_by, IsTold, all_le}
use Rattle.zr_law_settled.proofs.Following.{Follows}

-- ---- readings

-- what a router knows of logs; one that is not there knows nothing
abbrev pub knows_logs : Option RouterState → Name → Known Place
knows_logs None z = placed 0
knows_logs (Some r) z = placed (position r.node.known z)

abbrev pub logs_of : WorldState → Name → Name → Known Place
logs_of w x z = knows_logs (router_of w.routers x) z

abbrev pub log_lane : WorldState → Lane Place
log_lane w = record { table = logs_of w; way = way_of places_in w.ends }

-- y is a child of x in the tree of z, by the records of x
abbrev pub child_at : Option RouterState → Name → Name → Name → Bool
child_at None z x y = false
child_at (Some r) z x y = child_by r.node.base.records z x y

abbrev pub feeds_logs : WorldState → Feeds
feeds_logs w z x y = feeds_of w z x y && child_at (router_of w.routers x) z x y

-- positions stand for no value
abbrev pub none_made : Made Place
none_made z n = tt

-- What holds of logs in each world of a script: they spread, and each router knows its own name and keeps what it knows in order.
pub record LogsHold (w : WorldState) : Type 0 where
  pub spreads : Spreads none_made (feeds_logs w) (log_lane w)
  pub in_order : (x : Name) (r : RouterState) → router_of w.routers x ≡ Some r → AreInOrder r.node.known
  pub own_name : (x : Name) (r : RouterState) → router_of w.routers x ≡ Some r → r.node.known.me ≡ x

-- ---- notes

only : (u : Unit {0}) → u ≡ tt
only u = refl

-- notes of no greater numbers fit
pub all_fit : (most : Name → ℕ) (ms : List (Note Place)) → ((z : Name) → best z ms ≤ most z) → AllFit none_made most ms
all_fit most [] h = tt
all_fit most (m ∷ ms) h = (
  (omega (arith, best_head m ms, h m.source), only m.known.value),
  all_fit most ms (λ z. let more : best z ms ≤ best z (m ∷ ms) = omega arith in omega (arith, more, h z)),
)

-- ---- what is under way moves

pub logs_moved : (w : WorldState) (es : Ends) → LogsHold w → Moves places_in (logs_of w) w es → LogsHold (with_ends w es)
logs_moved w es l m = record {
  spreads = drops_kept none_made (feeds_logs w) (feeds_logs (with_ends w es)) (log_lane w) (log_lane (with_ends w es)) l.spreads (record {
    tables = λ x z. refl;
    part = m.part;
    dropped = λ x y z f.
        let parts = and_parts (feeds_of (with_ends w es) z x y) (child_at (router_of w.routers x) z x y) f in
        let before = fed_before places_in (logs_of w) w es m x y z parts.0 in
        (and_from (feeds_of w z x y) (child_at (router_of w.routers x) z x y) before.0 parts.1, before.1);
  });
  in_order = l.in_order;
  own_name = l.own_name;
}

-- ---- children are neighbours

-- who is a child by the records of a router is a neighbour to which its end is up
pub child_up : (w : WorldState) → Holds w → (a : Name) (r : RouterState) → router_of w.routers a ≡ Some r → (z y : Name) → child_by r.node.base.records z a y ≡ true → is_up w.ends (a, y) ≡ true
child_up w h a r found z y child =
    let among = (parent_is (graph_of r.node.base.records) z y a (child_is (graph_of r.node.base.records) z a y child)).1.neighbour in
    let edge : has_edge r.node.base.records y a ≡ true = (in_filter (λ q. has_edge r.node.base.records y q) _ a among).1 in
    let listed : lists r.node.base.records a y ≡ true = (and_parts (lists r.node.base.records y a) (lists r.node.base.records a y) edge).1 in
    let mine : has (linked_ids (table_of w a a).value) y ≡ true = ap (λ o. has (linked_ids (knows o a).value) y) found ∙ sym (lists_known r.node.base.records a y) ∙ listed in
    (and_parts (there_in w y) (is_up w.ends (a, y)) (sym (h.lists a y) ∙ mine)).1

-- ---- a router hears of an event

-- A neighbour that is fed with a log once router a has heard of an event: a router, over an unbroken link, that is a child by the records then;
-- its link was there before, where the event tells something new of logs.
pub record IsFed (w : WorldState) (es : Ends) (a : Name) (r : RouterState) (event : Event) (y z : Name) : Type 0 where
  pub router : there_in w y ≡ true
  pub whole : is_unbroken w.ends (a, y) ≡ true
  pub child : child_by (after r.node event).base.records z (after r.node event).base.me y ≡ true
  pub some : is_some (end_of es (a, y)) ≡ true
  pub link : LinkPeer
  pub linked : link_to (after r.node event).links y ≡ Some link
  pub named : link.peer.id ≡ y
  pub at : link_at (after r.node event).links link.link.0 ≡ Some link
  pub role : is_router link.peer.role ≡ true
  pub was : (link_at r.node.links link.link.0 ≡ Some link) ⊎ ((after r.node event).known ≡ r.node.known)

module _ (w : WorldState) (h : Holds w) (l : LogsHold w) (a : Name) (r : RouterState) (found : router_of w.routers a ≡ Some r) (event : Event) (tag : ℕ) (es : Ends)
    (ways : (x y : Name) → way_of places_in es x y ≡ way_of places_in w.ends x y) where
  abbrev u : WorldState
  u = with_ends w es

  abbrev v : WorldState
  v = sending u a r event tag

  pub logs_heard : (x z : Name) → logs_of v x z ≡ cond (is_named a x) (placed (position (after r.node event).known z)) (logs_of w x z)
  logs_heard x z = read_after (λ o. knows_logs o z) w.routers a x r (hearing r event) found

  pub logs_here : (z : Name) → logs_of v a z ≡ placed (position (after r.node event).known z)
  logs_here z = logs_heard a z ∙ ap (λ b. cond b (placed (position (after r.node event).known z)) (logs_of w a z)) (same_refl a)

  pub logs_other : (x z : Name) → is_named a x ≡ false → logs_of v x z ≡ logs_of w x z
  logs_other x z other = logs_heard x z ∙ ap (λ b. cond b (placed (position (after r.node event).known z)) (logs_of w x z)) other

  logs_before : (z : Name) → (logs_of w a z).number ≡ position r.node.known z
  logs_before z = ap (λ o. (knows_logs o z).number) found

  module _ (follows : Follows r.node event) (order : AreInOrder (after r.node event).known) (me : (after r.node event).base.me ≡ a)
      (foreign : (z : Name) → is_named a z ≡ false → position (after r.node event).known z ≤ own (log_lane w) z) (feeds' : Feeds)
      (fed : (y z : Name) → feeds' z a y ≡ true → IsFed w es a r event y z) (less : (x y z : Name) → is_named a x ≡ false → feeds' z x y ≡ true → feeds_logs w z x y ≡ true) where
    now : (z : Name) → (logs_of v a z).number ≡ position (after r.node event).known z
    now z = ap (λ (k : Known Place). k.number) (logs_here z)

    grown : (x z : Name) → (logs_of w x z).number ≤ (logs_of v x z).number
    grown x z = at_name a (λ q. (logs_of w q z).number ≤ (logs_of v q z).number) (let n = now z in let b = logs_before z in omega (arith, n, b, follows.grows z))
        (λ q other. let e : (logs_of v q z).number ≡ (logs_of w q z).number = ap (λ (k : Known Place). k.number) (logs_other q z other) in omega (arith, e)) x

    known_le : (z : Name) → (logs_of v a z).number ≤ own (log_lane v) z
    known_le z = at_name a (λ q. (logs_of v a q).number ≤ own (log_lane v) q) (omega arith)
        (λ q other. let n = now q in let e : own (log_lane v) q ≡ own (log_lane w) q = ap (λ (k : Known Place). k.number) (logs_other q q other) in omega (arith, n, e, foreign q other)) z

    sent_known : (y z : Name) → best z (sent_at places_in u a r event tag y) ≤ (logs_of v a z).number
    sent_known y z = by (is_some (end_of es (a, y))) (link_to (after r.node event).links y)
      where
        by : (t : Bool) (o : Option LinkPeer) → best z (places (cond t (option_map_or (λ l. sends r.node event l.link) o []) [])) ≤ (logs_of v a z).number
        by true None = omega arith
        by true (Some k) = let n = now z in omega (arith, n, all_le r.node event z k.link order (follows.le k.link z))
        by false o = omega arith

    way_is : (y z : Name) → best z (way_of places_in v.ends a y) ≡ max (best z (way_of places_in w.ends a y)) (best z (sent_at places_in u a r event tag y))
    way_is y z = ap (best z) (way_sent places_in u a r event tag y ∙ ap (λ ms. ms ++ sent_at places_in u a r event tag y) (ways a y)) ∙ best_append z (way_of places_in w.ends a y) (sent_at places_in u a r event tag y)

    tells : (y z : Name) → feeds' z a y ≡ true → (logs_of v a z).number ≤ max (logs_of v y z).number (best z (way_of places_in v.ends a y))
    tells y z f = by (follows.told it.link it.was it.at it.role z (ap (λ q. child_by (after r.node event).base.records z (after r.node event).base.me q) it.named ∙ it.child))
      where
        it : IsFed w es a r event y z
        it = fed y z f

        sent_is : sent_at places_in u a r event tag y ≡ places (sends r.node event it.link.link)
        sent_is = sent_there places_in u a r event tag y it.some ∙ ap (λ o. places (option_map_or (λ k. sends r.node event k.link) o [])) it.linked

        by : IsTold r.node event it.link z → (logs_of v a z).number ≤ max (logs_of v y z).number (best z (way_of places_in v.ends a y))
        by (inl le) = let n = now z in let s : best z (sent_at places_in u a r event tag y) ≡ best z (places (sends r.node event it.link.link)) = ap (best z) sent_is in omega (arith, n, s, le, way_is y z)
        by (inr p) =
            let child : child_by r.node.base.records z a y ≡ true = ap (λ q. child_by r.node.base.records z q y) (sym me) ∙ ap (λ q. child_by r.node.base.records z (after r.node event).base.me q) (sym it.named) ∙ p.0 in
            let fed_of : feeds_of w z a y ≡ true = and_from (there_in w y) (is_up w.ends (a, y) && is_unbroken w.ends (a, y)) it.router
            (and_from (is_up w.ends (a, y)) (is_unbroken w.ends (a, y)) (child_up w h a r found z y child) it.whole) in
            let feeds : feeds_logs w z a y ≡ true = and_from (feeds_of w z a y) (child_at (router_of w.routers a) z a y) fed_of (ap (λ o. child_at o z a y) found ∙ child) in
            let n = now z in let b = logs_before z in
            omega (arith, n, b, p.1, l.spreads.told a y z feeds, grown y z, way_is y z)

    pub heard_spreads : Spreads none_made feeds' (log_lane v)
    heard_spreads = goes_on_kept none_made none_made (feeds_logs w) feeds' a (log_lane w) (log_lane v) l.spreads (record {
      others = λ x z other. logs_other x z other;
      grows = λ z. grown a z;
      stays = λ z n le. refl;
      fit = λ z. (known_le z, only (logs_of v a z).value);
      sent = sent_at places_in u a r event tag;
      sends = λ y. way_sent places_in u a r event tag y ∙ ap (λ ms. ms ++ sent_at places_in u a r event tag y) (ways a y);
      silent = λ x y other. way_other places_in u a r event tag x y other ∙ ways x y;
      sent_fit = λ y. all_fit (own (log_lane v)) (sent_at places_in u a r event tag y) (λ z. let s = sent_known y z in omega (arith, s, known_le z));
      sent_le = λ y z. sent_known y z;
      tells = tells;
      feeds_less = less;
    })
