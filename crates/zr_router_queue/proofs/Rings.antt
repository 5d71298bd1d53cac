-- From an event's plans to what its entry leaves of the rings: the entry goes by what they answered as the event was planned.
use Rattle.std.proofs.Common.{◌≡◌, ℕ, ◌+◌, ◌<◌, nat_lt, not, Bool, true, false, List, [], ◌∷◌, ◌++◌, length, Option, Some, None, refl, sym, ap, subst, ◌∙◌}
use Rattle.std.specs.Prelude.{◌&&◌, IfSome, is_some, is_none}
use Rattle.std.specs.List.{AllByRecursion, AllZip}
use Rattle.std.specs.Option.{option_map_or}
use Rattle.std.proofs.lemmas.Bool.{false≢true}
use Rattle.zr_msg.specs.declared.msg.Msg.{Msg}
use Rattle.zr_told_spec.specs.Hub.{HubState, hub_sends}
use Rattle.zr_port.specs.declared.entry.Entry.{Entry}
use Rattle.zr_router_queue.specs.Tables.{LinkQueue, is_among, is_droppable, queued_by, replay}
use Rattle.zr_router_queue.specs.Ends.{EndState, GoesByRing, GoesByRings, IsAsked, IsEntered, IsPlan, IsSameRing, MayEnter, PlanState, is_too_full, lacks_room, parcels_for}
use Rattle.zr_router_queue.proofs.Entering.{each_entered}

not_none : {X : Type 0} (o : Option X) → is_some o ≡ true → is_none o ≡ false
not_none None s = cc
not_none (Some x) s = refl

open_not : {X : Type 0} (o : Option X) → is_some o ≡ true → o ≡ None → ⊥
open_not None s e = false≢true s
open_not (Some x) s e = false≢true (ap is_none e)

-- what the event has for the link of an end that was planned, by the plan: what is tested on it, and whether the ring was asked
module _ (hub : HubState) (entry : Entry) (y : EndState) where
  abbrev messages : List Msg
  messages = hub_sends hub entry.event y.queue.link

  by_plan : (test : Bool → Bool) (p : Option PlanState) → IsPlan messages y p →
      option_map_or (λ p. lacks_room y.free p && test p.droppable) p false ≡ (is_too_full y.free hub entry.event y.queue && test (is_droppable messages))
  by_plan test None plan = ap (λ b. (b && nat_lt y.free (parcels_for hub entry.event y.queue)) && test (is_droppable messages)) (sym (not_none y.queue.closed plan))
  by_plan test (Some p) plan =
      ap (λ z. nat_lt y.free (length z.batches) && test p.droppable) plan.1
      ∙ ap (λ d. nat_lt y.free (parcels_for hub entry.event y.queue) && test d) plan.2
      ∙ ap (λ o. (is_none o && nat_lt y.free (parcels_for hub entry.event y.queue)) && test (is_droppable messages)) (sym plan.0)

  asked_by : (calls : ℕ) (p : Option PlanState) → IsPlan messages y p → IfSome p (λ p. 0 < length p.parcels.batches → y.calls ≡ calls + 1) →
      y.queue.closed ≡ None → 0 < parcels_for hub entry.event y.queue → y.calls ≡ calls + 1
  asked_by calls None plan asks free some = absurd (open_not y.queue.closed plan free)
  asked_by calls (Some p) plan asks free some = asks (subst (λ z. 0 < length z.batches) (sym plan.1) some)

goes_one : (me : List ℕ) (h : List Entry) (hub : HubState) (entry : Entry) (x y z : EndState) → IsEntered me h hub entry y → y.queue ≡ x.queue → IsAsked x y →
    z.queue ≡ queued_by hub entry y.queue → IsSameRing y z → GoesByRing hub entry x z
goes_one me h hub entry x y z en is asked given same = record {
  answer = y.free;
  asked = λ free some. same.1 ∙ asked_by hub entry y x.calls y.plan en.planned asked.1 (ap (λ (q : LinkQueue). q.closed) is ∙ free) (subst (λ (q : LinkQueue). 0 < parcels_for hub entry.event q) (sym is) some);
  dropped = subst (λ (q : LinkQueue). is_among entry.dropped q.link ≡ (is_too_full y.free hub entry.event q && is_droppable (hub_sends hub entry.event q.link))) is
      (en.dropped ∙ by_plan hub entry y (λ b. b) y.plan en.planned);
  closed = subst (λ (q : LinkQueue). is_among entry.closed q.link ≡ (is_too_full y.free hub entry.event q && not (is_droppable (hub_sends hub entry.event q.link)))) is
      (en.closed ∙ by_plan hub entry y not y.plan en.planned);
  ring = same.0 ∙ asked.0;
  queue = given ∙ ap (queued_by hub entry) is;
  free = same.2 ∙ ap (λ (q : LinkQueue). y.free + length q.batches) is;
}

goes_each : (me : List ℕ) (h : List Entry) (hub : HubState) (entry : Entry) (xs ys zs : List EndState) → AllByRecursion (λ y. IsEntered me h hub entry y) ys →
    AllZip (λ old new. new.queue ≡ old.queue) xs ys → AllZip (λ old new. IsAsked old new) xs ys →
    AllZip (λ old new. new.queue ≡ queued_by hub entry old.queue) ys zs → AllZip (λ old new. IsSameRing old new) ys zs → AllZip (λ old new. GoesByRing hub entry old new) xs zs
goes_each me h hub entry [] [] [] en is asked given same = tt
goes_each me h hub entry [] [] (z ∷ zs) en is asked given same = absurd given
goes_each me h hub entry [] (y ∷ ys) zs en is asked given same = absurd is
goes_each me h hub entry (x ∷ xs) [] zs en is asked given same = absurd is
goes_each me h hub entry (x ∷ xs) (y ∷ ys) [] en is asked given same = absurd given
goes_each me h hub entry (x ∷ xs) (y ∷ ys) (z ∷ zs) en is asked given same =
    (goes_one me h hub entry x y z en.0 is.0 asked.0 given.0 same.0, goes_each me h hub entry xs ys zs en.1 is.1 asked.1 given.1 same.1)

-- the ends before the event, as it was planned, and with its entry
pub goes_by_rings : (me : List ℕ) (h : List Entry) (entry : Entry) (xs ys zs : List EndState) → MayEnter me h entry ys →
    AllZip (λ old new. new.queue ≡ old.queue) xs ys → AllZip (λ old new. IsAsked old new) xs ys →
    AllZip (λ old new. new.queue ≡ queued_by (replay me h).hub entry old.queue) ys zs → AllZip (λ old new. IsSameRing old new) ys zs → GoesByRings me h entry xs zs
goes_by_rings me h entry xs ys zs m is asked given same =
    goes_each me (h ++ entry ∷ []) (replay me h).hub entry xs ys zs (each_entered me h entry ys m) is asked given same
