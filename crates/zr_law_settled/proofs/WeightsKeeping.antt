-- What holds of a world's weights (`WeightsHold`) stays where ends change (`ends_hold`), a router comes (`router_holds`), more is declared at one
-- (`weighed_hold`), or one hears of an event (`heard_hold`).
use Rattle.std.proofs.Common.{◌≡◌, ◌≤◌, ◌+◌, ℕ, Bool, true, false, cond, List, [], ◌∷◌, map, Option, Some, None, is_some, refl, sym, ap, ◌∙◌, subst, arith}
use Rattle.std.specs.Prelude.{IfSome}
use Rattle.std.specs.List.{AllByRecursion}
use Rattle.std.specs.Option.{option_map_or}
use Rattle.std.specs.Ordering.{nat_cmp}
use Rattle.std.specs.Cmp.Lexicographic.{slice_cmp}
use Rattle.std.specs.BTreeMap.{insert_entry}
use Rattle.std.proofs.lemmas.Bool.{false≢true}
use Rattle.std.proofs.lemmas.List.Folds.{fold-map}
use Rattle.zr_id.specs.Zid.{is_named}
use Rattle.zr_graph.proofs.Names.{same_is, same_refl}
use Rattle.zr_msg.specs.declared.msg.Msg.{Msg}
use Rattle.zr_msg.specs.declared.event.Event.{Event}
use Rattle.zr_msg.specs.declared.peer.LinkPeer.{LinkPeer}
use Rattle.zr_log_set.specs.Decls.{weight}
use Rattle.zr_node_spec.specs.Tables.{link_to}
use Rattle.zr_node_spec.specs.Table.{sends, after}
use Rattle.zr_lists.proofs.Each.{All-append, All-each}
use Rattle.zr_lists.proofs.Options.{not_there}
use Rattle.zr_world_spec.specs.World.{Tagged, RouterState, EndState, Clients, End, Ends, WorldState, end_of, with_routers, with_clients, with_ends, with_router, new_router, router_of, is_taken, most_weight, weight_of}
use Rattle.zr_world_spec.specs.Acts.{sends_to, hearing, sending, weighing}
use Rattle.zr_world_spec.proofs.Names.{value_new, read_after, read_kept}
use Rattle.zr_world_spec.proofs.Telling.{is_told}
use Rattle.zr_world_spec.proofs.Cases.{free_name}
use Rattle.zr_law_settled.proofs.Told as told
use Rattle.zr_law_settled.proofs.Spreading.{at_name, Name}
use Rattle.zr_law_settled.proofs.Ends.{AtEnds, all_queued_all}
use Rattle.zr_law_settled.proofs.Weights.{Ever, IsTold, IsSent, IsWithin, IsUnderWay, weight_at, held_at, number_at, weighs_on, waiting, WeightsHold}
use Rattle.zr_law_settled.proofs.WeightsKnown.{GoesOn, told_later}
use Rattle.zr_law_settled.proofs.WeightsSent.{AreSent}
use Rattle.zr_law_settled.proofs.WeightsNodes.{Weighs, within_later}
use Rattle.zr_law_settled.proofs.WeightsWaiting.{waiting_queued}

-- ---- ends and clients

pub ends_hold : (w : WorldState) (h : WeightsHold w) (es : Ends) → ((x : Name) → waiting es x ≤ waiting w.ends x) → AtEnds (IsUnderWay h.ever) es → WeightsHold (with_ends w es)
ends_hold w h es less way = record {
  ever = h.ever;
  most = h.most;
  held = λ x. omega (arith, h.held x, less x);
  number = λ x. omega (arith, h.number x, less x);
  declared = λ x. omega (arith, h.declared x, less x);
  within = h.within;
  way = way;
}

pub clients_hold : (w : WorldState) (clients : Clients) → WeightsHold w → WeightsHold (with_clients w clients)
clients_hold w clients h = record { ever = h.ever; most = h.most; held = h.held; number = h.number; declared = h.declared; within = h.within; way = h.way }

-- what waits at an end stays within what is declared more
pub under_later : (ever ever' : Ever) → GoesOn ever ever' → (s : EndState) → IsUnderWay ever s → IsUnderWay ever' s
under_later ever ever' on s u = record {
  wire = All-each (λ t. IsTold ever t.msg) (λ t. IsTold ever' t.msg) s.wire (λ t k. told_later ever ever' on t.msg k) u.wire;
  queue = All-each (λ t. IsSent ever t.msg) (λ t. IsSent ever' t.msg) s.queue (λ t k. (told_later ever ever' on t.msg k.0, k.1)) u.queue;
}

-- ---- a router comes

pub router_holds : (w : WorldState) → WeightsHold w → (id : Name) → is_taken w id ≡ false → WeightsHold (with_routers w (insert_entry (slice_cmp nat_cmp) w.routers id (new_router id)))
router_holds w h id free = record {
  ever = h.ever;
  most = λ x. let e = same weight_at refl x in omega (arith, e, h.most x);
  held = λ x. let e = same weight_at refl x in let f = same held_at refl x in omega (arith, e, f, h.held x);
  number = λ x. let e = same weight_at refl x in let f = same number_at refl x in omega (arith, e, f, h.number x);
  declared = λ x. let e = same weight_at refl x in omega (arith, e, h.declared x);
  within = λ x r found. within x r (is_named x id) refl (sym (routers x) ∙ found);
  way = h.way;
}
  where
    none : router_of w.routers id ≡ None
    none = not_there (router_of w.routers id) (free_name w id free).0

    routers : (x : Name) → router_of (insert_entry (slice_cmp nat_cmp) w.routers id (new_router id)) x ≡ cond (is_named x id) (Some (new_router id)) (router_of w.routers x)
    routers x = value_new w.routers id x (new_router id) none

    -- a new router has nothing, and so had the name
    same : (f : Option RouterState → ℕ) → f (Some (new_router id)) ≡ f None → (x : Name) → f (router_of (insert_entry (slice_cmp nat_cmp) w.routers id (new_router id)) x) ≡ f (router_of w.routers x)
    same f new x = ap f (routers x) ∙ by (is_named x id) refl
      where
        by : (t : Bool) → is_named x id ≡ t → f (cond t (Some (new_router id)) (router_of w.routers x)) ≡ f (router_of w.routers x)
        by true e = new ∙ ap f (sym none) ∙ ap (λ q. f (router_of w.routers q)) (sym (same_is x id e))
        by false e = refl

    within : (x : Name) (r : RouterState) (t : Bool) → is_named x id ≡ t → cond t (Some (new_router id)) (router_of w.routers x) ≡ Some r → IsWithin h.ever x r.node
    within x r true e found =
        let one : new_router id ≡ r = cc in
        subst (λ (q : RouterState). IsWithin h.ever x q.node) one (record { own = sym (same_is x id e); mine = sym (same_is x id e); rows = tt; logs = tt })
    within x r false e found = h.within x r found

-- ---- clients are told

told_sent : (ever : Ever) (msg : Msg) → is_told msg ≡ true → IsSent ever msg
told_sent ever = told.by_told (λ msg. IsSent ever msg) (λ id key interest. (tt, refl)) (λ id key interest. (tt, refl)) (λ id key complete interest. (tt, refl)) (λ id. (tt, refl)) (λ id. (tt, refl)) (λ id. (tt, refl)) (λ interest. (tt, refl))

pub weights_told : (w v : WorldState) → told.IsTold w v → WeightsHold w → WeightsHold v
weights_told w v t h = record {
  ever = h.ever;
  most = λ x. let e = weight x in omega (arith, e, h.most x);
  held = λ x. let e = weight x in let f = told.reads w v t held_at (λ r. refl) x in let u = same x in omega (arith, e, f, u, h.held x);
  number = λ x. let e = weight x in let f = told.reads w v t number_at (λ r. refl) x in let u = same x in omega (arith, e, f, u, h.number x);
  declared = λ x. let e = weight x in let u = same x in omega (arith, e, u, h.declared x);
  within = told.of_each w v t (λ x n. IsWithin h.ever x n) h.within;
  way = λ e. by (told.is_near w e) (end_of w.ends e) (end_of v.ends e) (t.ends e) (h.way e);
}
  where
    weight : (x : Name) → weight_at (router_of v.routers x) ≡ weight_at (router_of w.routers x)
    weight x = told.reads w v t weight_at (λ r. refl) x

    -- wires are the same
    bare : (es : Ends) (x : Name) → waiting (told.unqueued_ends es) x ≡ waiting es x
    bare es x = fold-map (λ (n : ℕ) (q : End × EndState). n + weighs_on x q) (λ (q : End × EndState). (q.0, told.unqueued q.1)) 0 es

    same : (x : Name) → waiting v.ends x ≡ waiting w.ends x
    same x = sym (bare v.ends x) ∙ ap (λ es. waiting es x) t.wires ∙ bare w.ends x

    all_sent : (ms : List Tagged) → told.AreTold ms → AllByRecursion (λ m. IsSent h.ever m.msg) ms
    all_sent ms k = All-each (λ m. is_told m.msg ≡ true) (λ m. IsSent h.ever m.msg) ms (λ m e. told_sent h.ever m.msg e) k

    by : (near : Bool) (o o' : Option EndState) → told.IsMore near o o' → IfSome o (IsUnderWay h.ever) → IfSome o' (IsUnderWay h.ever)
    by near o None m k = tt
    by near None (Some s) m k = absurd (false≢true (sym (ap is_some m.same)))
    by near (Some s) (Some z) m k =
        let bare : told.unqueued z ≡ told.unqueued s = cc in
        record {
          wire = subst (λ ws. AllByRecursion (λ q. IsTold h.ever q.msg) ws) (sym (ap (λ (q : EndState). q.wire) bare)) k.wire;
          queue = subst (λ ws. AllByRecursion (λ q. IsSent h.ever q.msg) ws) (sym m.queue) (All-append (λ q. IsSent h.ever q.msg) s.queue m.more k.queue (all_sent m.more m.told));
        }

-- ---- more is declared at a router

module _ (w : WorldState) (h : WeightsHold w) (a : Name) (r : RouterState) (found : router_of w.routers a ≡ Some r) (key : List ℕ) (room : r.weight + weight_of key ≤ most_weight) (es : Ends)
    (here : waiting es a ≤ waiting w.ends a + weight_of key) (other : (z : Name) → is_named a z ≡ false → waiting es z ≤ waiting w.ends z) (way : AtEnds (IsUnderWay h.ever) es) where
  abbrev heavier : WorldState
  heavier = with_routers (with_ends w es) (with_router w.routers a (weighing r key))

  keeps : (f : Option RouterState → ℕ) → f (Some (weighing r key)) ≡ f (Some r) → (x : Name) → f (router_of heavier.routers x) ≡ f (router_of w.routers x)
  keeps f same x = read_kept f w.routers a x r (weighing r key) found same

  weighs_here : weight_at (router_of heavier.routers a) ≡ weight_at (router_of w.routers a) + weight_of key
  weighs_here = read_after weight_at w.routers a a r (weighing r key) found ∙ ap (λ t. cond t (r.weight + weight_of key) (weight_at (router_of w.routers a))) (same_refl a) ∙ ap (λ n. n + weight_of key) (sym (ap weight_at found))

  weighs_there : (x : Name) → is_named a x ≡ false → weight_at (router_of heavier.routers x) ≡ weight_at (router_of w.routers x)
  weighs_there x e = read_after weight_at w.routers a x r (weighing r key) found ∙ ap (λ t. cond t (r.weight + weight_of key) (weight_at (router_of w.routers x))) e

  -- what a budget has gained is what waits more
  gains : (f : Name → ℕ) → ((x : Name) → f x + waiting w.ends x ≤ weight_at (router_of w.routers x)) → (x : Name) → f x + waiting es x ≤ weight_at (router_of heavier.routers x)
  gains f old x = at_name a (λ q. f q + waiting es q ≤ weight_at (router_of heavier.routers q)) (omega (arith, old a, here, weighs_here)) (λ q e. omega (arith, old q, other q e, weighs_there q e)) x

  pub weighed_hold : WeightsHold heavier
  weighed_hold = record {
    ever = h.ever;
    most = λ x. at_name a (λ q. weight_at (router_of heavier.routers q) ≤ most_weight) (let e : weight_at (router_of w.routers a) ≡ r.weight = ap weight_at found in omega (arith, weighs_here, e, room))
        (λ q e. omega (arith, weighs_there q e, h.most q)) x;
    held = λ x. let e = keeps held_at refl x in omega (arith, e, gains (λ q. held_at (router_of w.routers q)) h.held x);
    number = λ x. let e = keeps number_at refl x in omega (arith, e, gains (λ q. number_at (router_of w.routers q)) h.number x);
    declared = gains (λ q. weight (h.ever q)) h.declared;
    within = λ x q there. within x q (is_named a x) refl (sym (read_after (λ o. o) w.routers a x r (weighing r key) found) ∙ there);
    way = way;
  }
    where
      within : (x : Name) (q : RouterState) (t : Bool) → is_named a x ≡ t → cond t (Some (weighing r key)) (router_of w.routers x) ≡ Some q → IsWithin h.ever x q.node
      within x q true e there =
          let one : weighing r key ≡ q = cc in
          subst (λ (p : RouterState). IsWithin h.ever x p.node) one (h.within x r (ap (router_of w.routers) (sym (same_is a x e)) ∙ found))
      within x q false e there = h.within x q there

-- ---- a router hears of an event

module _ (w : WorldState) (h : WeightsHold w) (a : Name) (r : RouterState) (found : router_of w.routers a ≡ Some r) (event : Event) (tag : ℕ) (es : Ends) (ever : Ever) (more : ℕ)
    (on : GoesOn h.ever ever) (same : (z : Name) → is_named a z ≡ false → ever z ≡ h.ever z) (gained : weight (ever a) ≤ weight (h.ever a) + more)
    (here : waiting es a + more ≤ waiting w.ends a) (other : (z : Name) → is_named a z ≡ false → waiting es z ≤ waiting w.ends z)
    (way : AtEnds (IsUnderWay ever) es) (goes : Weighs ever a r.node event more) where
  abbrev left : WorldState
  left = sending (with_ends w es) a r event tag

  weight_is : (x : Name) → weight_at (router_of left.routers x) ≡ weight_at (router_of w.routers x)
  weight_is x = read_kept weight_at w.routers a x r (hearing r event) found refl

  -- what a budget has gained waits no more
  spends : (f g : Name → ℕ) → g a ≤ f a + more → ((x : Name) → is_named a x ≡ false → g x ≡ f x) → ((x : Name) → f x + waiting w.ends x ≤ weight_at (router_of w.routers x)) →
      (x : Name) → g x + waiting left.ends x ≤ weight_at (router_of left.routers x)
  spends f g le rest old x = at_name a (λ q. g q + waiting left.ends q ≤ weight_at (router_of left.routers q))
      (omega (arith, old a, le, here, weight_is a, waiting_queued es a r.node event tag a)) (λ q e. let k = rest q e in omega (arith, old q, k, other q e, weight_is q, waiting_queued es a r.node event tag q)) x

  at_router : (f : Option RouterState → ℕ) → f (Some (hearing r event)) ≤ f (Some r) + more → ((x : Name) → f (router_of w.routers x) + waiting w.ends x ≤ weight_at (router_of w.routers x)) →
      (x : Name) → f (router_of left.routers x) + waiting left.ends x ≤ weight_at (router_of left.routers x)
  at_router f le old = spends (λ q. f (router_of w.routers q)) (λ q. f (router_of left.routers q)) first rest old
    where
      reads : (x : Name) → f (router_of left.routers x) ≡ cond (is_named a x) (f (Some (hearing r event))) (f (router_of w.routers x))
      reads x = read_after f w.routers a x r (hearing r event) found

      first : f (router_of left.routers a) ≤ f (router_of w.routers a) + more
      first =
          let now : f (router_of left.routers a) ≡ f (Some (hearing r event)) = reads a ∙ ap (λ t. cond t (f (Some (hearing r event))) (f (router_of w.routers a))) (same_refl a) in
          let was : f (router_of w.routers a) ≡ f (Some r) = ap f found in
          omega (arith, now, was, le)

      rest : (x : Name) → is_named a x ≡ false → f (router_of left.routers x) ≡ f (router_of w.routers x)
      rest x e = reads x ∙ ap (λ t. cond t (f (Some (hearing r event))) (f (router_of w.routers x))) e

  tagged : (msgs : List Msg) → AreSent ever msgs → AllByRecursion (λ (t : Tagged). IsSent ever t.msg) (map (λ m. record { msg = m; tag = tag }) msgs)
  tagged [] k = tt
  tagged (m ∷ msgs) k = (k.0, tagged msgs k.1)

  sends_all : (y : Name) → AreSent ever (sends_to r.node event y)
  sends_all y = by (link_to (after r.node event).links y)
    where
      by : (o : Option LinkPeer) → AreSent ever (option_map_or (λ l. sends r.node event l.link) o [])
      by None = tt
      by (Some l) = goes.sent l.link

  pub heard_hold : WeightsHold left
  heard_hold = record {
    ever = ever;
    most = λ x. omega (arith, weight_is x, h.most x);
    held = at_router held_at goes.held h.held;
    number = at_router number_at goes.number h.number;
    declared = spends (λ q. weight (h.ever q)) (λ q. weight (ever q)) gained (λ x e. ap weight (same x e)) h.declared;
    within = λ x q there. within x q (is_named a x) refl (sym (read_after (λ o. o) w.routers a x r (hearing r event) found) ∙ there);
    way = all_queued_all (IsUnderWay ever) es way a r.node event tag (λ y s u. record {
      wire = u.wire;
      queue = All-append (λ t. IsSent ever t.msg) s.queue (map (λ m. record { msg = m; tag = tag }) (sends_to r.node event y)) u.queue (tagged (sends_to r.node event y) (sends_all y));
    });
  }
    where
      within : (x : Name) (q : RouterState) (t : Bool) → is_named a x ≡ t → cond t (Some (hearing r event)) (router_of w.routers x) ≡ Some q → IsWithin ever x q.node
      within x q true e there =
          let one : hearing r event ≡ q = cc in
          subst (λ (p : RouterState). IsWithin ever x p.node) one (subst (λ z. IsWithin ever z (after r.node event)) (same_is a x e) goes.within)
      within x q false e there = within_later h.ever ever x q.node on (h.within x q there)
