-- A world as what spreads in it: what each router's base knows (`table_of`), the records on the way from a router to another, on the wire
-- and behind them in the queue (`way_of`), and over which links records go (`feeds_of`). Each reading takes what a look-up found, so that
-- one equation says what it is after an act: here after a router has heard of an event, the other acts have theirs where they are used.
use Rattle.std.proofs.Common.{◌≡◌, ℕ, Bool, true, false, cond, List, [], ◌∷◌, ◌++◌, map, Option, Some, None, is_some, refl, sym, ap, ◌∙◌, subst, append_assoc}
use Rattle.std.specs.Prelude.{◌&&◌, flat_map}
use Rattle.std.specs.Option.{option_map, option_map_or}
use Rattle.std.proofs.lemmas.Grind.{flat_map-append}
use Rattle.zr_id.specs.Zid.{is_named}
use Rattle.zr_id.specs.Record.{linked_ids}
use Rattle.zr_graph.specs.Record.{has, weight_to}
use Rattle.zr_graph.specs.Base.{IsInOrder}
use Rattle.zr_graph.proofs.Names.{same_is, same_refl}
use Rattle.zr_msg.specs.declared.msg.Msg.{Msg}
use Rattle.zr_msg.specs.declared.event.Event.{Event}
use Rattle.zr_node_spec.specs.Table.{after}
use Rattle.zr_world_spec.specs.World.{Tagged, RouterState, EndState, End, Ends, WorldState, router_of, end_of, is_up, is_unbroken, queued, wire_at}
use Rattle.zr_world_spec.specs.Acts.{sends_to, all_queued, hearing, sending}
use Rattle.zr_world_spec.proofs.Names.{read_after}
use Rattle.zr_world_spec.proofs.Ends.{read_all_queued, keep_all_queued}
use Rattle.zr_law_settled.proofs.Spreading.{Name, Known, Note, Made, Lane, Feeds, Spreads, AllOf}
use Rattle.zr_law_settled.proofs.Records.{Links, known, known_of, notes_in, told}
use Rattle.zr_law_settled.proofs.Hearing.{sent_of, order_after}

-- ---- readings

-- whether a router of the name is there
abbrev pub there_in : WorldState → Name → Bool
there_in w x = is_some (router_of w.routers x)

-- what a router knows; one that is not there knows nothing
abbrev pub knows : Option RouterState → Name → Known Links
knows None z = known None
knows (Some r) z = known_of r.node.base z

abbrev pub table_of : WorldState → Name → Name → Known Links
table_of w x z = knows (router_of w.routers x) z

-- what waits at an end
abbrev pub queue_at : Option EndState → List Tagged
queue_at None = []
queue_at (Some s) = s.queue

-- what its link weighs at an end that is up, and nothing at another one
abbrev pub up_weight_at : Option EndState → ℕ
up_weight_at o = option_map_or (λ s. cond s.up s.weight 0) o 0

abbrev pub up_weight : Ends → End → ℕ
up_weight ends e = up_weight_at (end_of ends e)

module _ {V : Type 0} (tells : Msg → List (Note V)) where
  -- what waiting messages tell, in order
  abbrev pub notes : List Tagged → List (Note V)
  notes ws = flat_map (λ x. tells x.msg) ws

  -- what is on the way from a router to another: on the wire at the other's end, and behind it in the queue at its own
  abbrev pub way_of : Ends → Name → Name → List (Note V)
  way_of ends x y = notes (wire_at (end_of ends (y, x))) ++ notes (queue_at (end_of ends (x, y)))

  pub notes-append : (xs ys : List Tagged) → notes (xs ++ ys) ≡ notes xs ++ notes ys
  notes-append xs ys = flat_map-append (λ x. tells x.msg) xs ys

  -- what is queued tells what was sent
  pub notes_tagged : (msgs : List Msg) (tag : ℕ) → notes (map (λ m. record { msg = m; tag = tag }) msgs) ≡ flat_map tells msgs
  notes_tagged [] tag = refl
  notes_tagged (m ∷ msgs) tag = ap (λ z. tells m ++ z) (notes_tagged msgs tag)

abbrev pub lane_of : WorldState → Lane Links
lane_of w = record { table = table_of w; way = way_of notes_in w.ends }

-- Records go over unbroken links from ends that are up, to routers.
abbrev pub feeds_of : WorldState → Feeds
feeds_of w z x y = there_in w y && (is_up w.ends (x, y) && is_unbroken w.ends (x, y))

-- a link to another router has two ends
abbrev pub HasTwins : WorldState → Type 0
HasTwins w = (x y : Name) → is_some (end_of w.ends (x, y)) ≡ true → there_in w y ≡ true → is_some (end_of w.ends (y, x)) ≡ true

-- What holds of each world of a script. Records spread, whatever was made under each number; and of each router: its own record lists the
-- routers to which its ends are up, each with the weight of its end, its records are in order, and a link to another router has two ends.
pub record Holds (w : WorldState) : Type 0 where
  pub made : Made Links
  pub spreads : Spreads made (feeds_of w) (lane_of w)
  pub lists : (z y : Name) → has (linked_ids (table_of w z z).value) y ≡ (there_in w y && is_up w.ends (z, y))
  pub weighs : (z y : Name) → weight_to (table_of w z z).value y ≡ cond (there_in w y) (up_weight w.ends (z, y)) 0
  pub in_order : (x : Name) (r : RouterState) → router_of w.routers x ≡ Some r → IsInOrder r.node.base
  pub twins : HasTwins w

-- ---- what is on the way once a router has heard of an event

module _ {V : Type 0} (tells : Msg → List (Note V)) (w : WorldState) (a : Name) (r : RouterState) (event : Event) (tag : ℕ) where
  abbrev heard_ends : Ends
  heard_ends = all_queued w.ends a r.node event tag

  -- what a sends a neighbour, where it has an end for it
  abbrev pub sent_at : Name → List (Note V)
  sent_at y = flat_map tells (cond (is_some (end_of w.ends (a, y))) (sends_to r.node event y) [])

  queue_heard : (x y : Name) → notes tells (queue_at (end_of heard_ends (x, y))) ≡
      cond (is_named a x) (notes tells (queue_at (end_of w.ends (x, y))) ++ flat_map tells (cond (is_some (end_of w.ends (x, y))) (sends_to r.node event y) [])) (notes tells (queue_at (end_of w.ends (x, y))))
  queue_heard x y = read_all_queued w.ends a r.node event tag (λ o. notes tells (queue_at o)) (x, y) ∙ ap (λ z. cond (is_named a x) z (notes tells (queue_at (end_of w.ends (x, y))))) (by (end_of w.ends (x, y)))
    where
      by : (o : Option EndState) → notes tells (queue_at (option_map (λ s. queued s (sends_to r.node event y) tag) o)) ≡ notes tells (queue_at o) ++ flat_map tells (cond (is_some o) (sends_to r.node event y) [])
      by None = refl
      by (Some s) = notes-append tells s.queue (map (λ m. record { msg = m; tag = tag }) (sends_to r.node event y)) ∙ ap (λ z. notes tells s.queue ++ z) (notes_tagged tells (sends_to r.node event y) tag)

  way_heard : (x y : Name) → way_of tells heard_ends x y ≡ notes tells (wire_at (end_of w.ends (y, x))) ++ notes tells (queue_at (end_of heard_ends (x, y)))
  way_heard x y = ap (λ z. z ++ notes tells (queue_at (end_of heard_ends (x, y)))) (keep_all_queued w.ends a r.node event tag (λ o. notes tells (wire_at o)) (y, x) (λ s. refl))

  -- a's way to a neighbour has what a sends, and the other ways are as they were
  pub way_sent : (y : Name) → way_of tells heard_ends a y ≡ way_of tells w.ends a y ++ sent_at y
  way_sent y =
      way_heard a y
      ∙ ap (λ z. notes tells (wire_at (end_of w.ends (y, a))) ++ z)
      (queue_heard a y ∙ ap (λ b. cond b (notes tells (queue_at (end_of w.ends (a, y))) ++ sent_at y) (notes tells (queue_at (end_of w.ends (a, y))))) (same_refl a))
      ∙ sym (append_assoc (notes tells (wire_at (end_of w.ends (y, a)))) (notes tells (queue_at (end_of w.ends (a, y)))) (sent_at y))

  pub way_other : (x y : Name) → is_named a x ≡ false → way_of tells heard_ends x y ≡ way_of tells w.ends x y
  way_other x y other =
      way_heard x y
      ∙ ap (λ z. notes tells (wire_at (end_of w.ends (y, x))) ++ z)
      (queue_heard x y
      ∙ ap (λ b. cond b (notes tells (queue_at (end_of w.ends (x, y))) ++ flat_map tells (cond (is_some (end_of w.ends (x, y))) (sends_to r.node event y) [])) (notes tells (queue_at (end_of w.ends (x, y))))) other)

  -- where a has an end for a neighbour, it sends what it sends on the link to it
  pub sent_there : (y : Name) → is_some (end_of w.ends (a, y)) ≡ true → sent_at y ≡ flat_map tells (sends_to r.node event y)
  sent_there y some = ap (λ b. flat_map tells (cond b (sends_to r.node event y) [])) some

-- ---- a router has heard of an event

module _ (w : WorldState) (a : Name) (r : RouterState) (found : router_of w.routers a ≡ Some r) (event : Event) (tag : ℕ) where
  abbrev v : WorldState
  v = sending w a r event tag

  pub there_heard : (x : Name) → there_in v x ≡ there_in w x
  there_heard x = read_after is_some w.routers a x r (hearing r event) found ∙ by (is_named a x) refl
    where
      by : (b : Bool) → is_named a x ≡ b → cond b true (there_in w x) ≡ there_in w x
      by false e = refl
      by true e = sym (ap (λ z. is_some (router_of w.routers z)) (sym (same_is a x e)) ∙ ap is_some found)

  pub table_heard : (x z : Name) → table_of v x z ≡ cond (is_named a x) (known_of (after r.node event).base z) (table_of w x z)
  table_heard x z = read_after (λ o. knows o z) w.routers a x r (hearing r event) found

  pub router_heard : router_of v.routers a ≡ Some (hearing r event)
  router_heard = read_after (λ o. o) w.routers a a r (hearing r event) found ∙ ap (λ b. cond b (Some (hearing r event)) (router_of w.routers a)) (same_refl a)

  -- any other reading of an end stays
  pub end_heard : {Y : Type 0} (f : Option EndState → Y) → ((s : EndState) (msgs : List Msg) → f (Some (queued s msgs tag)) ≡ f (Some s)) → (q : End) → f (end_of v.ends q) ≡ f (end_of w.ends q)
  end_heard f same q = keep_all_queued w.ends a r.node event tag f q (λ s. same s (sends_to r.node event q.1))

  -- a's table is what its base then knows, and the other tables are as they were
  pub table_here : (z : Name) → table_of v a z ≡ known_of (after r.node event).base z
  table_here z = table_heard a z ∙ ap (λ b. cond b (known_of (after r.node event).base z) (table_of w a z)) (same_refl a)

  pub table_other : (x z : Name) → is_named a x ≡ false → table_of v x z ≡ table_of w x z
  table_other x z other = table_heard x z ∙ ap (λ b. cond b (known_of (after r.node event).base z) (table_of w x z)) other

  -- what a sends is what its base then knows
  pub of_table : IsInOrder (after r.node event).base → (y : Name) → AllOf (table_of v a) (sent_at notes_in w a r event tag y)
  of_table order y = by (is_some (end_of w.ends (a, y)))
    where
      of_known : (msgs : List Msg) → AllOf (known_of (after r.node event).base) (told msgs) → AllOf (table_of v a) (told msgs)
      of_known msgs h = moved (told msgs) h
        where
          moved : (ms : List (Note Links)) → AllOf (known_of (after r.node event).base) ms → AllOf (table_of v a) ms
          moved [] h = tt
          moved (m ∷ ms) h = (table_here m.source ∙ h.0, moved ms h.1)

      by : (b : Bool) → AllOf (table_of v a) (told (cond b (sends_to r.node event y) []))
      by true = of_known (sends_to r.node event y) (sent_of r.node event y order)
      by false = tt

  -- bases stay in order
  pub order_heard : ((x : Name) (q : RouterState) → router_of w.routers x ≡ Some q → IsInOrder q.node.base) → (x : Name) (q : RouterState) → router_of v.routers x ≡ Some q → IsInOrder q.node.base
  order_heard each x q e = by (is_named a x) (sym (read_after (λ o. o) w.routers a x r (hearing r event) found) ∙ e)
    where
      by : (b : Bool) → cond b (Some (hearing r event)) (router_of w.routers x) ≡ Some q → IsInOrder q.node.base
      by true k = let one : hearing r event ≡ q = cc in subst (λ (s : RouterState). IsInOrder s.node.base) one (order_after r.node event (each a r found))
      by false k = each x q k

  -- ends are there, up and unbroken as they were
  pub up_heard : (q : End) → is_up v.ends q ≡ is_up w.ends q
  up_heard q = end_heard (λ o. option_map_or (λ s. s.up) o false) (λ s msgs. refl) q

  pub up_weight_heard : (q : End) → up_weight v.ends q ≡ up_weight w.ends q
  up_weight_heard q = end_heard up_weight_at (λ s msgs. refl) q

  pub unbroken_heard : (q : End) → is_unbroken v.ends q ≡ is_unbroken w.ends q
  unbroken_heard q = end_heard (λ o. option_map_or (λ s. s.unbroken) o false) (λ s msgs. refl) q

  pub some_heard : (q : End) → is_some (end_of v.ends q) ≡ is_some (end_of w.ends q)
  some_heard q = end_heard (λ o. is_some o) (λ s msgs. refl) q
