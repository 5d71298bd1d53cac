-- One more entry. It may follow (`legal_entered`); what it queues for each link is what the link's end was planned for (`each_entered`); and once
-- each end is settled their queues are those of the longer list (`queues_entered`).
use Rattle.std.proofs.Common.{◌≡◌, ℕ, ◌+◌, ◌<◌, ◌==◌, nat_lt, not, Bool, true, false, List, [], ◌∷◌, ◌++◌, length, Option, Some, None, map, filter, option_map, refl, sym, ap, subst, ◌∙◌, arith}
use Rattle.std.specs.Prelude.{◌&&◌, is_some, is_none}
use Rattle.std.specs.List.{AllByRecursion, AllZip, find, list_all}
use Rattle.std.specs.Option.{option_map_or}
use Rattle.std.proofs.lemmas.Bool.Decides.{nat_tests}
use Rattle.std.proofs.lemmas.List.Folds.{list_all-map}
use Rattle.zr_id.specs.declared.link.LinkNo.{LinkNo}
use Rattle.zr_msg.specs.declared.event.Event.{Event}
use Rattle.zr_msg.specs.declared.msg.Msg.{Msg}
use Rattle.zr_told_spec.specs.Hub.{HubState, hub_sends, hub_refuses}
use Rattle.zr_node_spec.specs.Event.{on_link}
use Rattle.zr_frame.specs.Outbox.{OutboxState}
use Rattle.zr_frame.specs.Packing.{packed}
use Rattle.zr_frame_pack.specs.Packing.{parcels_of}
use Rattle.zr_port.specs.declared.entry.Entry.{Entry}
use Rattle.zr_lists.proofs.Tests.{any_mapped}
use Rattle.zr_router_queue.specs.Tables.{Tables, replay, queues_at, queued_by, queue_of, is_among, is_droppable, is_other, slots_of, open_queues}
use Rattle.zr_router_queue.specs.History.{may_come, has_parts, is_over, may_lack, queue_passes, may_be_dropped, may_be_closed, may_follow, is_legal}
use Rattle.zr_router_queue.specs.Ends.{PlanState, EndState, IsEntered, IsNamed, IsPlan, IsPlanned, IsPlannedFor, IsSettled, MayEnter, is_closing, is_dropped, lacks_room}
use Rattle.zr_router_queue.proofs.InStep.{and_both, distinct_at, distinct_queues, number}
use Rattle.zr_router_queue.proofs.Lookups.{AreDistinct, all_kept, distinct_filter, distinct_unmap, each_among, each_both, each_found, each_kept, each_mapped, each_so}
use Rattle.zr_router_queue.specs.Grows.{keeps_link, queue_after}
use Rattle.zr_router_queue.proofs.Replays.{legal_more, open_after, replays_more}
use Rattle.zr_router_queue.proofs.Named.{named_too}
use Rattle.zr_router_queue.proofs.Stepped.{zip_so}

-- ---- plans

-- what was planned of messages that were sent is the plan of the event that sent them
pub each_planned : (hub : HubState) (event : Event) (sent : List (LinkNo × Msg)) → ((to : LinkNo) → on_link to sent ≡ hub_sends hub event to) → (xs ys : List EndState) →
    AllZip (λ old new. (new.queue ≡ old.queue) × IsPlannedFor (on_link old.queue.link sent) new) xs ys →
    (map (λ e. e.queue) ys ≡ map (λ e. e.queue) xs) × AllByRecursion (λ e. IsPlanned hub event e) ys
each_planned hub event sent h [] [] r = (refl, tt)
each_planned hub event sent h [] (y ∷ ys) r = absurd r
each_planned hub event sent h (x ∷ xs) [] r = absurd r
each_planned hub event sent h (x ∷ xs) (y ∷ ys) r =
    let rest = each_planned hub event sent h xs ys r.1 in
    let same : on_link x.queue.link sent ≡ hub_sends hub event y.queue.link = h x.queue.link ∙ ap (λ q. hub_sends hub event q.link) (sym r.0.0) in
    (rw (r.0.0, rest.0) refl, (subst (λ messages. IsPlannedFor messages y) same r.0.1, rest.1))

-- ---- the entry may follow

abbrev IsFound : Tables → Entry → EndState → Type 0
IsFound t e x = (x.queue.is_up ≡ true) × (find (λ q. q.link.0 == x.queue.link.0) (queues_at t.queues e.event e.outbox) ≡ Some x.queue)

lack_passes : (t : Tables) (e : Entry) (x : EndState) (p : PlanState) → IsFound t e x → IsPlan (hub_sends t.hub e.event x.queue.link) x (Some p) → lacks_room x.free p ≡ true →
    queue_passes (queues_at t.queues e.event e.outbox) (may_lack t.hub e.event) x.queue.link ≡ true
lack_passes t e x p found plan lacks =
    let few : x.free < length p.parcels.batches = grind (arith, nat_tests, lacks) in
    let much : slots_of x.queue.role < length x.queue.batches + length p.parcels.batches = plan.3 few in
    let over : nat_lt (slots_of x.queue.role) (length x.queue.batches + length p.parcels.batches) ≡ true = grind (arith, nat_tests, much) in
    let is : is_over t.hub e.event x.queue ≡ true = ap (λ z. nat_lt (slots_of x.queue.role) (length x.queue.batches + length z.batches)) (sym plan.1) ∙ over in
    ap (λ o. option_map_or (may_lack t.hub e.event) o false) found.1 ∙ rw (found.0, plan.0, is) refl

both_true : (a b : Bool) → a ≡ true → b ≡ true → a && b ≡ true
both_true true b e f = f
both_true false b e f = cc

none_packed : (o : OutboxState) → length (parcels_of o []).batches ≡ 0
unfolding packed
none_packed o = refl

other_of : (messages : List Msg) → not (is_droppable messages) ≡ true → (messages ≡ [] → ⊥) → is_other messages ≡ true
other_of [] h some = absurd (some refl)
other_of (m ∷ []) h some = h
other_of (m ∷ n ∷ more) h some = refl

dropped_may : (t : Tables) (e : Entry) (x : EndState) → IsFound t e x → IsPlanned t.hub e.event x → is_dropped x ≡ true → may_be_dropped t e x.queue.link ≡ true
dropped_may t e x found planned is = by x.plan planned is
  where
    by : (p : Option PlanState) → IsPlan (hub_sends t.hub e.event x.queue.link) x p → option_map_or (λ p. lacks_room x.free p && p.droppable) p false ≡ true →
        may_be_dropped t e x.queue.link ≡ true
    by None plan is = cc
    by (Some p) plan is =
        let both = and_both (lacks_room x.free p) p.droppable is in
        both_true (is_droppable (hub_sends t.hub e.event x.queue.link)) _ (sym plan.2 ∙ both.1) (lack_passes t e x p found plan both.0)

closed_may : (t : Tables) (e : Entry) (x : EndState) → IsFound t e x → IsPlanned t.hub e.event x → is_closing x ≡ true → may_be_closed t e x.queue.link ≡ true
closed_may t e x found planned is = by x.plan planned is
  where
    by : (p : Option PlanState) → IsPlan (hub_sends t.hub e.event x.queue.link) x p → option_map_or (λ p. lacks_room x.free p && not p.droppable) p false ≡ true →
        may_be_closed t e x.queue.link ≡ true
    by None plan is = cc
    by (Some p) plan is =
        let both = and_both (lacks_room x.free p) (not p.droppable) is in
        let few : x.free < length p.parcels.batches = grind (arith, nat_tests, both.0) in
        let some : hub_sends t.hub e.event x.queue.link ≡ [] → ⊥ = λ none.
        let zero : length p.parcels.batches ≡ 0 =
        ap (λ z. length z.batches) plan.1 ∙ ap (λ messages. length (parcels_of x.queue.outbox messages).batches) none ∙ none_packed x.queue.outbox in
        omega (arith, few, zero) in
        both_true (is_other (hub_sends t.hub e.event x.queue.link)) _ (other_of (hub_sends t.hub e.event x.queue.link) (ap not (sym plan.2) ∙ both.1) some)
        (lack_passes t e x p found plan both.0)

module _ (me : List ℕ) (h : List Entry) (entry : Entry) (ends : List EndState) (m : MayEnter me h entry ends) where
  distinct : AreDistinct number (queues_at (replay me h).queues entry.event entry.outbox)
  distinct = distinct_at (replay me h).queues entry.event entry.outbox (distinct_queues me h)

  pub each_is_found : AllByRecursion (λ x. IsFound (replay me h) entry x) ends
  each_is_found =
      each_mapped (λ q. (q.is_up ≡ true) × (find (λ p. p.link.0 == q.link.0) (queues_at (replay me h).queues entry.event entry.outbox) ≡ Some q)) (λ x. x.queue) ends
      (subst (λ qs. AllByRecursion (λ q. (q.is_up ≡ true) × (find (λ p. p.link.0 == q.link.0) (queues_at (replay me h).queues entry.event entry.outbox) ≡ Some q)) qs) (sym m.queues)
      (each_kept (λ q. find (λ p. p.link.0 == q.link.0) (queues_at (replay me h).queues entry.event entry.outbox) ≡ Some q) (λ q. q.is_up)
      (queues_at (replay me h).queues entry.event entry.outbox) (each_found number (queues_at (replay me h).queues entry.event entry.outbox) distinct)))

  all_may : AllByRecursion (λ x. IsFound (replay me h) entry x × IsPlanned (replay me h).hub entry.event x) ends
  all_may = each_both (λ x. IsFound (replay me h) entry x) (λ x. IsPlanned (replay me h).hub entry.event x) ends each_is_found m.planned

  all_dropped : list_all (may_be_dropped (replay me h) entry) entry.dropped ≡ true
  all_dropped =
      ap (λ links. list_all (may_be_dropped (replay me h) entry) links) m.dropped
      ∙ list_all-map (may_be_dropped (replay me h) entry) (λ x. x.queue.link) (filter (λ x. is_dropped x) ends)
      ∙ all_kept (λ x. is_dropped x) (λ x. may_be_dropped (replay me h) entry x.queue.link) ends
      (each_so _ (λ x. is_dropped x ≡ true → may_be_dropped (replay me h) entry x.queue.link ≡ true) (λ x p is. dropped_may (replay me h) entry x p.0 p.1 is) ends all_may)

  all_closed : list_all (may_be_closed (replay me h) entry) entry.closed ≡ true
  all_closed =
      ap (λ links. list_all (may_be_closed (replay me h) entry) links) m.closed
      ∙ list_all-map (may_be_closed (replay me h) entry) (λ x. x.queue.link) (filter (λ x. is_closing x) ends)
      ∙ all_kept (λ x. is_closing x) (λ x. may_be_closed (replay me h) entry x.queue.link) ends
      (each_so _ (λ x. is_closing x ≡ true → may_be_closed (replay me h) entry x.queue.link ≡ true) (λ x p is. closed_may (replay me h) entry x p.0 p.1 is) ends all_may)

  may : may_follow (replay me h) entry ≡ true
  may =
      both_true (may_come (replay me h).hub.node entry.event) _ m.comes
      (both_true (is_none (hub_refuses (replay me h).hub entry.event)) _ (ap is_none m.taken)
      (both_true (has_parts entry.event (is_some entry.outbox) (is_some entry.reason)) _ m.parts
      (both_true (list_all (may_be_dropped (replay me h) entry) entry.dropped) _ all_dropped all_closed)))

  pub legal_entered : is_legal me (h ++ entry ∷ []) ≡ true
  legal_entered = legal_more me h entry m.legal may

  -- ---- each end is entered

  ends_distinct : AreDistinct (λ x. x.queue.link.0) ends
  ends_distinct =
      distinct_unmap number (λ x. x.queue) ends
      (subst (λ qs. AreDistinct number qs) (sym m.queues) (distinct_filter number (λ q. q.is_up) (queues_at (replay me h).queues entry.event entry.outbox) distinct))

  among : (p : EndState → Bool) (links : List LinkNo) → links ≡ map (λ x. x.queue.link) (filter p ends) → AllByRecursion (λ x. is_among links x.queue.link ≡ p x) ends
  among p links e =
      each_so _ (λ x. is_among links x.queue.link ≡ p x)
      (λ x f. ap (λ ls. is_among ls x.queue.link) e ∙ any_mapped (λ l. l.0 == x.queue.link.0) (λ y. y.queue.link) (filter p ends) ∙ f) ends
      (each_among (λ x. x.queue.link.0) p ends ends_distinct)

  entered_one : (x : EndState) → IsFound (replay me h) entry x → IsPlanned (replay me h).hub entry.event x → is_among entry.closed x.queue.link ≡ is_closing x →
      is_among entry.dropped x.queue.link ≡ is_dropped x → IsNamed me (h ++ entry ∷ []) x → IsEntered me (h ++ entry ∷ []) (replay me h).hub entry x
  entered_one x found planned closed dropped named = record {
    planned = planned;
    last = (h, refl);
    queue =
        ap (λ t. option_map_or (λ q. q.batches) (queue_of t x.queue.link) []) (replays_more me h entry)
        ∙ ap (λ o. option_map_or (λ q. q.batches) o []) (queue_after (replay me h) entry x.queue.link)
        ∙ ap (λ o. option_map_or (λ q. q.batches) (option_map (queued_by (replay me h).hub entry) o) []) found.1;
    closed = closed;
    dropped = dropped;
    named = named;
  }

  pub each_entered : AllByRecursion (λ x. IsEntered me (h ++ entry ∷ []) (replay me h).hub entry x) ends
  each_entered =
      each_so _ (λ x. IsEntered me (h ++ entry ∷ []) (replay me h).hub entry x) (λ x p. entered_one x p.0.0 p.0.1 p.1.0.0 p.1.0.1 p.1.1) ends
      (each_both _ _ ends all_may
      (each_both _ _ ends (each_both _ _ ends (among (λ x. is_closing x) entry.closed m.closed) (among (λ x. is_dropped x) entry.dropped m.dropped)) m.named))

-- ---- the queues that are left

settled : (hub : HubState) (entry : Entry) (xs ys : List EndState) → AllByRecursion (λ x. IsPlanned hub entry.event x) xs →
    AllZip (λ old new. IsSettled entry old new) xs ys →
    map (λ x. x.queue) ys ≡ map (queued_by hub entry) (map (λ x. x.queue) xs)
settled hub entry [] [] p r = refl
settled hub entry [] (y ∷ ys) p r = absurd r
settled hub entry (x ∷ xs) [] p r = absurd r
settled hub entry (x ∷ xs) (y ∷ ys) p r = rw (r.0.0 hub p.0, settled hub entry xs ys p.1 r.1) refl

-- each queue is what the entry makes of it
pub each_given : (hub : HubState) (entry : Entry) (xs ys : List EndState) → AllByRecursion (λ x. IsPlanned hub entry.event x) xs →
    AllZip (λ old new. IsSettled entry old new) xs ys → AllZip (λ old new. new.queue ≡ queued_by hub entry old.queue) xs ys
each_given hub entry [] [] p r = tt
each_given hub entry [] (y ∷ ys) p r = absurd r
each_given hub entry (x ∷ xs) [] p r = absurd r
each_given hub entry (x ∷ xs) (y ∷ ys) p r = (r.0.0 hub p.0, each_given hub entry xs ys p.1 r.1)

pub queues_entered : (me : List ℕ) (h : List Entry) (entry : Entry) (xs ys : List EndState) → MayEnter me h entry xs →
    AllZip (λ old new. IsSettled entry old new) xs ys →
    map (λ x. x.queue) ys ≡ open_queues (replay me (h ++ entry ∷ []))
queues_entered me h entry xs ys m r =
    settled (replay me h).hub entry xs ys m.planned r
    ∙ ap (λ qs. map (queued_by (replay me h).hub entry) qs) m.queues
    ∙ sym (open_after (replay me h) entry)
    ∙ ap open_queues (sym (replays_more me h entry))

-- each ring keeps its name
pub names_entered : (me : List ℕ) (h : List Entry) (entry : Entry) (xs ys : List EndState) → MayEnter me h entry xs →
    AllZip (λ old new. IsSettled entry old new) xs ys → AllByRecursion (λ x. IsNamed me (h ++ entry ∷ []) x) ys
names_entered me h entry xs ys m r =
    let hub = (replay me h).hub in
    named_too me (h ++ entry ∷ []) xs ys m.named (zip_so (λ old new. IsSettled entry old new) (λ old new. new.ring ≡ old.ring) (λ old new s. s.1.0) xs ys r)
    (zip_so (λ old new. new.queue ≡ queued_by hub entry old.queue) (λ old new. new.queue.link ≡ old.queue.link)
    (λ old new q. ap (λ z. z.link) q ∙ keeps_link hub entry old.queue) xs ys (each_given hub entry xs ys m.planned r))
