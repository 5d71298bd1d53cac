-- Handling in a phase keeps the flow: what a router takes from its wire goes into its queues, and its tables stay. On the way it goes on to the
-- next router, or to the receiver, once where the receiver is to have it, and everywhere it goes down the tree.
use Rattle.std.proofs.Common.{◌≡◌, ℕ, Bool, true, false, cond, List, [], ◌∷◌, ◌++◌, map, Option, Some, Ok, refl, sym, ap, ◌∙◌, subst, append-nil, inl, inr}
use Rattle.std.specs.Prelude.{◌&&◌, ◌||◌, not, is_some, is_none}
use Rattle.std.specs.List.{list_all}
use Rattle.std.specs.Option.{option_map}
use Rattle.std.proofs.lemmas.Bool.{true≢false, and_parts, and_from, or_left, or_right, not_from_false}
use Rattle.zr_id.specs.Zid.{is_named}
use Rattle.zr_id.specs.declared.link.LinkNo.{LinkNo}
use Rattle.zr_msg.specs.declared.msg.Msg.{Msg}
use Rattle.zr_msg.specs.declared.event.Event.TheVariants.{From}
use Rattle.zr_script_spec.specs.declared.command.Act.TheVariants as c
use Rattle.zr_script_spec.specs.declared.report.ReportLine.TheVariants as line
use Rattle.zr_node_spec.specs.State.{NodeState}
use Rattle.zr_node_spec.specs.Table.{after_from}
use Rattle.zr_world_spec.specs.World.{Tagged, EndState, End, Ends, RouterState, is_end, with_ends, router_of, end_of, with_end, queued, with_wire, is_calm, unsettles, wire_at}
use Rattle.zr_world_spec.specs.Acts.{sends_to, number_to, hearing, sending}
use Rattle.zr_world_spec.specs.Moments.{Numbered, Moment}
use Rattle.zr_guarantee.specs.Item.{Item, Carried}
use Rattle.zr_guarantee.specs.Broker.{is_for}
use Rattle.zr_guarantee.specs.Sent.{carried_by, items_of, item_of, sent_to}
use Rattle.zr_world_spec.proofs.Names.{names, same_name, read_kept, read_after}
use Rattle.zr_world_spec.proofs.Ends.{end_parts, same_end, read_with_end, keep_with_end, read_all_queued, keep_all_queued}
use Rattle.zr_world_spec.proofs.Cases.{on_handle}
use Rattle.zr_lists.proofs.Tests.{all_both, weaker, all_true}
use Rattle.zr_law_samples.proofs.Places.{Sent, Queue, Wire, Hop, hops, along, keeps, handled}
use Rattle.zr_law_settled.proofs.Worlds.{queue_at}
use Rattle.zr_law_samples.proofs.Carried.{carried_in}
use Rattle.zr_law_samples.proofs.Idle.{idle, asked_as}
use Rattle.zr_law_samples.proofs.Pushes.{names_tree, goes_on}
use Rattle.zr_law_samples.proofs.Telling.{telling_keeps}
use Rattle.zr_law_samples.proofs.Watch.{tagged_all}
use Rattle.zr_law_samples.proofs.Messages.{IsQuiet}
use Rattle.zr_law_samples.proofs.Held.{items_both, items_tag, items_are, each_none, router_was, loses, queue_adds, wanted_both, kept_both, kept_none, foreign_wanted, foreign_kept, end_is}
use Rattle.zr_law_samples.proofs.Pair.{Pair, items, all_tagged, of_publisher, wanted_of, kept_for, held, has_router, leads, comes_down, passes_down, fits, idle_router, Flows, IsSentOn, OnWay, Between, IsRouted, sent_more, from_same}

module _ (p : Pair) (routed : IsRouted p) (done : List Numbered) (now : Moment) (h : Flows p done now) where
  abbrev es : Ends
  es = now.world.ends

  -- the router has sent what it sends, and its clients were told nothing yet
  abbrev on_sending : (router name : List ℕ) → RouterState → EndState → LinkNo → Msg → ℕ → List Tagged → Moment
  on_sending router name r s l msg tag xs = record {
    world = sending (with_ends now.world (with_end es (router, name) (with_wire s xs))) router r (From l msg) tag;
    report = now.report ++ line.Handled router name msg tag ∷ [];
  }

  -- A message has left the wire, and the router's tables stay. Of what it is on the wire for the receiver, all has come to the queue on the way,
  -- and nothing else has.
  sent_keeps : (n : ℕ) (router name : List ℕ) (r : RouterState) → router_of now.world.routers router ≡ Some r →
      (s : EndState) → end_of es (router, name) ≡ Some s → (l : LinkNo) (msg : Msg) (tag : ℕ) (xs : List Tagged) → s.wire ≡ record { msg = msg; tag = tag } ∷ xs →
      idle (after_from r.node l.0 msg) ≡ idle r.node →
      ((v : List ℕ) → list_all (λ z. not (unsettles z)) (sends_to r.node (From l msg) v) ≡ true) →
      ((v : List ℕ) → has_router p v ≡ true → list_all (fits p v router) (all_tagged tag (sends_to r.node (From l msg) v)) ≡ true) →
      ((to v : List ℕ) → OnWay p to router v → is_named name v ≡ true → kept_for p to (items (all_tagged tag (sends_to r.node (From l msg) to))) ≡ wanted_of p (item_of msg tag)) →
      ((to v : List ℕ) → OnWay p to router v → is_named name v ≡ false → kept_for p to (items (all_tagged tag (sends_to r.node (From l msg) to))) ≡ []) →
      Flows p (done ++ (n, c.Handle router name) ∷ []) (on_sending router name r s l msg tag xs)
  sent_keeps n router name r found_r s found l msg tag xs front tables calm down own_is other_is = record {
    routers = λ x. read_kept (option_map idle_router) now.world.routers router x r (hearing r (From l msg)) found_r (ap (λ z. Some (record { node = z; told = []; weight = 0 })) tables) ∙ h.routers x;
    clients = h.clients;
    ends_are = λ q. kept is_some (λ z sent_. refl) q ∙ left is_some refl q ∙ h.ends_are q;
    calm = λ q. ap (list_all is_calm) (wire_reads q) ∙ loses is_calm one xs (is_end (router, name) q) (wire_at (end_of es q)) (wire_was q) (h.calm q);
    calm_queues = λ q. ap (list_all is_calm) (queue_reads q)
        ∙ all_both is_calm (queue_at (end_of es q)) (more q) (h.calm_queues q)
        (cond_all is_calm (is_named router q.0 && is_some (end_of es q)) (all_tagged tag (ms q.1)) (λ k. tagged_all is_calm tag (ms q.1) (calm q.1)));
    wires = λ u v. ap (list_all (fits p u v)) (wire_reads (u, v)) ∙ loses (fits p u v) one xs (is_end (router, name) (u, v)) (wire_at (end_of es (u, v))) (wire_was (u, v)) (h.wires u v);
    queues = λ u v is. ap (list_all (fits p v u)) (queue_reads (u, v))
        ∙ all_both (fits p v u) (queue_at (end_of es (u, v))) (more (u, v)) (h.queues u v is)
        (cond_all (fits p v u) (is_named router u && is_some (end_of es (u, v))) (all_tagged tag (ms v))
        (λ k. ap (λ z. list_all (fits p v z) (all_tagged tag (ms v))) (sym (same_name router u (and_parts (is_named router u) (is_some (end_of es (u, v))) k).0)) ∙ down v is));
    flow = ap (λ z. z ++ along (held p next) (hops p.receiver (p.first ∷ p.more) p.publisher)) sent_is
        ∙ ap (λ z. held p now (Sent p.receiver) ++ z)
        (keeps (held p now) (held p next) moved (hops p.receiver (p.first ∷ p.more) p.publisher)
        (handled (OnWay p) (Between p) p.publisher (held p now) (held p next) moved (λ to u v k. hop to u v k (is_named router u) refl) p.receiver (p.first ∷ p.more) routed.whole_way))
        ∙ h.flow ∙ sym (from_same p.before done (n, c.Handle router name) p.publisher p.receiver refl);
  }
    where
      next : Moment
      next = on_sending router name r s l msg tag xs

      one : Tagged
      one = record { msg = msg; tag = tag }

      half : Ends
      half = with_end es (router, name) (with_wire s xs)

      moved : List Item
      moved = wanted_of p (item_of msg tag)

      ms : List ℕ → List Msg
      ms v = sends_to r.node (From l msg) v

      -- what comes to a queue
      more : End → List Tagged
      more q = cond (is_named router q.0 && is_some (end_of es q)) (all_tagged tag (ms q.1)) []

      cond_all : (t : Tagged → Bool) (b : Bool) (ws : List Tagged) → (b ≡ true → list_all t ws ≡ true) → list_all t (cond b ws []) ≡ true
      cond_all t true ws k = k refl
      cond_all t false ws k = refl

      kept : {Y : Type 0} (f : Option EndState → Y) → ((z : EndState) (sent_ : List Msg) → f (Some (queued z sent_ tag)) ≡ f (Some z)) → (q : End) →
          f (end_of next.world.ends q) ≡ f (end_of half q)
      kept f same q = keep_all_queued half router r.node (From l msg) tag f q (λ z. same z (sends_to r.node (From l msg) q.1))

      left : {Y : Type 0} (f : Option EndState → Y) → f (Some (with_wire s xs)) ≡ f (Some s) → (q : End) → f (end_of half q) ≡ f (end_of es q)
      left f same q = keep_with_end es (router, name) (with_wire s xs) f q s found same

      wire_reads : (q : End) → wire_at (end_of next.world.ends q) ≡ cond (is_end (router, name) q) xs (wire_at (end_of es q))
      wire_reads q = kept wire_at (λ z sent_. refl) q ∙ read_with_end es (router, name) (with_wire s xs) wire_at q (ap is_some found)

      queue_reads : (q : End) → queue_at (end_of next.world.ends q) ≡ queue_at (end_of es q) ++ more q
      queue_reads q = read_all_queued half router r.node (From l msg) tag queue_at q
          ∙ queue_adds (is_named router q.0) (ms q.1) tag (end_of es q) (end_of half q) (left queue_at refl q) (left is_some refl q)

      wire_was : (q : End) → is_end (router, name) q ≡ true → wire_at (end_of es q) ≡ one ∷ xs
      wire_was q k = ap (λ z. wire_at (end_of es z)) (sym (same_end (router, name) q k)) ∙ ap wire_at found ∙ front

      sent_is : held p next (Sent p.receiver) ≡ held p now (Sent p.receiver)
      sent_is = ap (of_publisher p) (sent_more now.report (line.Handled router name msg tag) p.receiver ∙ append-nil (sent_to now.report p.receiver))

      queue_is : (u v : List ℕ) → held p next (Queue u v) ≡ held p now (Queue u v) ++ kept_for p v (items (more (u, v)))
      queue_is u v = ap (λ z. kept_for p v (items z)) (queue_reads (u, v)) ∙ ap (kept_for p v) (items_both (queue_at (end_of es (u, v))) (more (u, v)))
          ∙ kept_both p v (items (queue_at (end_of es (u, v)))) (items (more (u, v)))

      wire_is : (u v : List ℕ) (b : Bool) → is_end (router, name) (u, v) ≡ b → held p next (Wire u v) ≡ wanted_of p (items (cond b xs (wire_at (end_of es (u, v)))))
      wire_is u v b k = ap (λ z. wanted_of p (items z)) (wire_reads (u, v) ∙ ap (λ z. cond z xs (wire_at (end_of es (u, v)))) k)

      hop : (to u v : List ℕ) → OnWay p to u v → (b : Bool) → is_named router u ≡ b → Hop (held p now) (held p next) moved (Queue u to) (Wire u v)
      hop to u v k false other = inr (
        queue_is u to ∙ ap (λ b. held p now (Queue u to) ++ kept_for p to (items (cond (b && is_some (end_of es (u, to))) (all_tagged tag (ms to)) []))) other
            ∙ ap (λ z. held p now (Queue u to) ++ z) (kept_none p to) ∙ append-nil (held p now (Queue u to)),
        wire_is u v false (end_parts (router, name) (u, v) ∙ ap (λ b. b && is_named name v) other),
      )
      hop to u v k true same = by (is_named name v) refl
        where
          u_is : u ≡ router
          u_is = sym (same_name router u same)

          here : OnWay p to router v
          here = subst (λ (z : List ℕ). OnWay p to z v) u_is k

          end_b : (b : Bool) → is_named name v ≡ b → is_end (router, name) (u, v) ≡ b
          end_b b e = end_parts (router, name) (u, v) ∙ ap (λ z. z && is_named name v) same ∙ e

          came : held p next (Queue u to) ≡ held p now (Queue u to) ++ kept_for p to (items (all_tagged tag (ms to)))
          came = queue_is u to ∙ ap (λ b. held p now (Queue u to) ++ kept_for p to (items (cond b (all_tagged tag (ms to)) [])))
              (ap (λ b. b && is_some (end_of es (u, to))) same ∙ end_is p routed done now h (u, to) k.end_is)

          by : (b : Bool) → is_named name v ≡ b → Hop (held p now) (held p next) moved (Queue u to) (Wire u v)
          by true e = inl (
            came ∙ ap (λ z. held p now (Queue u to) ++ z) (own_is to v here e),
            ap (λ z. wanted_of p (items z)) (wire_was (u, v) (end_b true e))
                ∙ wanted_both p (item_of msg tag) (items xs)
                ∙ ap (λ z. moved ++ z) (sym (wire_is u v true (end_b true e))),
          )
          by false e = inr (
            came ∙ ap (λ z. held p now (Queue u to) ++ z) (other_is to v here e) ∙ append-nil (held p now (Queue u to)),
            wire_is u v false (end_b false e),
          )

  -- and its clients were told
  handle_keeps : (n : ℕ) (router name : List ℕ) (r : RouterState) → router_of now.world.routers router ≡ Some r →
      (s : EndState) → end_of es (router, name) ≡ Some s → (l : LinkNo) (msg : Msg) (tag : ℕ) (xs : List Tagged) → s.wire ≡ record { msg = msg; tag = tag } ∷ xs →
      idle (after_from r.node l.0 msg) ≡ idle r.node →
      ((v : List ℕ) → list_all (λ z. not (unsettles z)) (sends_to r.node (From l msg) v) ≡ true) →
      ((v : List ℕ) → has_router p v ≡ true → list_all (fits p v router) (all_tagged tag (sends_to r.node (From l msg) v)) ≡ true) →
      ((to v : List ℕ) → OnWay p to router v → is_named name v ≡ true → kept_for p to (items (all_tagged tag (sends_to r.node (From l msg) to))) ≡ wanted_of p (item_of msg tag)) →
      ((to v : List ℕ) → OnWay p to router v → is_named name v ≡ false → kept_for p to (items (all_tagged tag (sends_to r.node (From l msg) to))) ≡ []) →
      Flows p (done ++ (n, c.Handle router name) ∷ []) (on_handle now router name r s l msg tag xs)
  handle_keeps n router name r found_r s found l msg tag xs front tables calm down own_is other_is =
      telling_keeps p (done ++ (n, c.Handle router name) ∷ []) (on_sending router name r s l msg tag xs)
      (sent_keeps n router name r found_r s found l msg tag xs front tables calm down own_is other_is) router r (From l msg) tag
      (read_after (λ o. o) now.world.routers router router r (hearing r (From l msg)) found_r ∙ ap (λ b. cond b (Some (hearing r (From l msg))) (router_of now.world.routers router)) (names.refl router))

  -- a message that the router takes quietly
  pub quiet_keeps : (n : ℕ) (router name : List ℕ) (r : RouterState) → router_of now.world.routers router ≡ Some r →
      (s : EndState) → end_of es (router, name) ≡ Some s → (l : LinkNo) (msg : Msg) (tag : ℕ) (xs : List Tagged) → s.wire ≡ record { msg = msg; tag = tag } ∷ xs → IsQuiet msg →
      Flows p (done ++ (n, c.Handle router name) ∷ []) (on_handle now router name r s l msg tag xs)
  quiet_keeps n router name r found_r s found l msg tag xs front quiet =
      handle_keeps n router name r found_r s found l msg tag xs front (quiet.keeps r.node l.0)
      (goes_on r.node l msg (quiet.keeps r.node l.0) (λ ms. list_all (λ z. not (unsettles z)) ms ≡ true) refl (quiet.calms r.node l.0))
      (λ v is. tagged_all (fits p v router) tag (ms v) (weaker (λ z. is_none (carried_by z)) (λ z. fits p v router (record { msg = z; tag = tag }))
      (λ z k. or_right (not (p.by tag)) (passes_down p v router z) (or_left (is_none (carried_by z)) (comes_down p v router z) k)) (ms v) (each_none (ms v) (none v))))
      (λ to v k e. nothing to ∙ sym (ap (λ o. wanted_of p (items_of o tag)) quiet.carries))
      (λ to v k e. nothing to)
    where
      ms : List ℕ → List Msg
      ms v = sends_to r.node (From l msg) v

      none : (v : List ℕ) → carried_in (sends_to r.node (From l msg) v) ≡ []
      none v = goes_on r.node l msg (quiet.keeps r.node l.0) (λ ms. carried_in ms ≡ []) refl (quiet.sends r.node l.0) v

      nothing : (to : List ℕ) → kept_for p to (items (all_tagged tag (sends_to r.node (From l msg) to))) ≡ []
      nothing to = ap (kept_for p to) (items_are tag (sends_to r.node (From l msg) to) ∙ ap (map (λ x. record { line = tag; carried = x })) (none to)) ∙ kept_none p to

  -- a sample or a request
  pub carried_keeps : (n : ℕ) (router name : List ℕ) (r : RouterState) → router_of now.world.routers router ≡ Some r →
      (s : EndState) → end_of es (router, name) ≡ Some s → (l : LinkNo) → number_to r name ≡ Ok l → (msg : Msg) (carried : Carried) → carried_by msg ≡ Some carried →
      idle (after_from r.node l.0 msg) ≡ idle r.node → ((v : List ℕ) → list_all (λ z. not (unsettles z)) (sends_to r.node (From l msg) v) ≡ true) →
      (tag : ℕ) (xs : List Tagged) → s.wire ≡ record { msg = msg; tag = tag } ∷ xs → Flows p (done ++ (n, c.Handle router name) ∷ []) (on_handle now router name r s l msg tag xs)
  carried_keeps n router name r found_r s found l el msg carried carries tables calm tag xs front = by (p.by tag) refl
    where
      item : Item
      item = record { line = tag; carried = carried }

      ms : List ℕ → List Msg
      ms v = sends_to r.node (From l msg) v

      w : Bool
      w = is_for p.before p.publisher p.receiver carried

      its_item : item_of msg tag ≡ item ∷ []
      its_item = ap (λ o. items_of o tag) carries

      -- the router's tables are those of the mark
      was : (q : RouterState) × (router_of p.world.routers router ≡ Some q) × (idle_router q ≡ idle_router r)
      was = router_was p routed done now h router r found_r

      number_was : (v : List ℕ) → number_to r v ≡ Ok l → number_to was.0 v ≡ Ok l
      number_was v e = ap (λ (q : RouterState). number_to q v) was.2 ∙ e

      -- with what is asked of it now
      node_is : asked_as was.0.node r.node ≡ r.node
      node_is = ap (λ (q : RouterState). asked_as q.node r.node) was.2

      fits_it : fits p router name (record { msg = msg; tag = tag }) ≡ true
      fits_it = (and_parts (fits p router name (record { msg = msg; tag = tag })) (list_all (fits p router name) xs)
          (ap (list_all (fits p router name)) (sym (ap wire_at found ∙ front)) ∙ h.wires router name)).0

      kept_case : (a w : Bool) → cond (a && w) (item ∷ []) [] ≡ cond w (cond a (item ∷ []) []) []
      kept_case true true = refl
      kept_case true false = refl
      kept_case false true = refl
      kept_case false false = refl

      by : (b : Bool) → p.by tag ≡ b → Flows p (done ++ (n, c.Handle router name) ∷ []) (on_handle now router name r s l msg tag xs)
      by false foreign =
          handle_keeps n router name r found_r s found l msg tag xs front tables calm
          (λ v is. tagged_all (fits p v router) tag (ms v) (all_true (λ z. fits p v router (record { msg = z; tag = tag })) (λ z. ap (λ b. not b || passes_down p v router z) foreign) (ms v)))
          (λ to v k e. none to ∙ sym (ap (wanted_of p) its_item ∙ foreign_wanted p (item ∷ []) (and_from (not (p.by tag)) true (not_from_false (p.by tag) foreign) refl)))
          (λ to v k e. none to)
        where
          none : (to : List ℕ) → kept_for p to (items (all_tagged tag (ms to))) ≡ []
          none to = foreign_kept p to (items (all_tagged tag (ms to))) (items_tag (λ i. not (p.by i)) tag (not_from_false (p.by tag) foreign) (ms to))
      by true own =
          handle_keeps n router name r found_r s found l msg tag xs front tables calm
          (λ v is. tagged_all (fits p v router) tag (ms v) (weaker (passes_down p v router) (λ z. fits p v router (record { msg = z; tag = tag })) (λ z k. or_right (not (p.by tag)) (passes_down p v router z) k) (ms v)
          (ap (λ (z : NodeState). list_all (passes_down p v router) (sends_to z (From l msg) v)) (sym node_is)
          ∙ routed.goes_down router name v was.0 was.1 r.node l (number_was name el) msg carried carries down is)))
          (λ to v k e. goes_on_way to v k e ∙ sym (ap (wanted_of p) its_item))
          (λ to v k e. absurd (true≢false (sym (ap (is_named name) (sym (k.only name leads_it)) ∙ names.refl name) ∙ e)))
        where
          down : comes_down p router name msg ≡ true
          down = sym (ap (λ o. is_none o || comes_down p router name msg) carries) ∙ sym (ap (λ b. not b || passes_down p router name msg) own) ∙ fits_it

          leads_it : leads p router name ≡ true
          leads_it = (and_parts (leads p router name) (is_named p.root router || names_tree p.root msg) down).0

          goes_on_way : (to v : List ℕ) → OnWay p to router v → is_named name v ≡ true → kept_for p to (items (all_tagged tag (ms to))) ≡ wanted_of p (item ∷ [])
          goes_on_way to v k e =
              ap (kept_for p to) (items_are tag (ms to) ∙ ap (λ (z : NodeState). map (λ x. record { line = tag; carried = x }) (carried_in (sends_to z (From l msg) to))) (sym node_is)
              ∙ ap (map (λ x. record { line = tag; carried = x })) sent.sent_is)
              ∙ at (is_named p.receiver to) refl sent.goes refl w refl
            where
              is : name ≡ v
              is = same_name name v e

              sent : IsSentOn p to carried (sends_to (asked_as was.0.node r.node) (From l msg) to)
              sent = k.routes was.0 was.1 r.node l (ap (number_to was.0) (sym is) ∙ number_was name el) msg carried carries (ap (λ z. comes_down p router z msg) (sym is) ∙ down)

              at : (b : Bool) → is_named p.receiver to ≡ b → (g : Bool) → sent.goes ≡ g → (v : Bool) → w ≡ v →
                  cond b (of_publisher p (map (λ x. record { line = tag; carried = x }) (cond g (carried ∷ []) []))) (wanted_of p (map (λ x. record { line = tag; carried = x }) (cond g (carried ∷ []) [])))
                  ≡ cond (p.by tag && v) (item ∷ []) []
              at true e true eg true ev = sym (kept_case (p.by tag) true)
              at true e false eg false ev = sym (kept_case (p.by tag) false)
              at true e true eg false ev = absurd (true≢false (sym eg ∙ sent.to_receiver e ∙ ev))
              at true e false eg true ev = absurd (true≢false (sym (sent.where_wanted ev) ∙ eg))
              at false e true eg v ev = ap (λ z. cond (p.by tag && z) (item ∷ []) []) ev
              at false e false eg true ev = absurd (true≢false (sym (sent.where_wanted ev) ∙ eg))
              at false e false eg false ev = sym (kept_case (p.by tag) false)
