-- What an entry makes of the queue of a link's end that it was planned for: the end is closed, left out or given its parcels, as the entry names it.
use Rattle.std.proofs.Common.{◌≡◌, ℕ, ◌≤◌, ◌||◌, nat_lt, not, Bool, true, false, cond, List, [], ◌∷◌, ◌++◌, length, Some, refl, sym, ap, subst, ◌∙◌, arith}
use Rattle.std.specs.Prelude.{◌&&◌, is_some}
use Rattle.std.specs.Option.{option_map_or}
use Rattle.std.proofs.lemmas.Bool.Decides.{nat_tests}
use Rattle.std.proofs.Math.Bool.{or-true}
use Rattle.zr_told_spec.specs.Hub.{HubState, hub_sends}
use Rattle.zr_port.specs.declared.entry.Entry.{Entry}
use Rattle.zr_ring.specs.Content.{end}
use Rattle.zr_router_queue.specs.Tables.{batches_for, is_among, queued, queued_by, with_closed, with_parcels}
use Rattle.zr_router_queue.specs.Note.{Vouches, ends_by, full_reason, is_down_with, last_passes}
use Rattle.zr_router_queue.specs.Ends.{EndState, IsEntered, IsPlan, IsPlanned, PlanState, lacks_room}

pub last_snoc : (test : Entry → Bool) (before : List Entry) (e : Entry) → last_passes test (before ++ e ∷ []) ≡ test e
last_snoc test [] e = refl
last_snoc test (x ∷ []) e = refl
last_snoc test (x ∷ y ∷ more) e = last_snoc test (y ∷ more) e

module _ (hub : HubState) (entry : Entry) (x : EndState) (p : PlanState) (planned : IsPlanned hub entry.event x) (plan : x.plan ≡ Some p) where
  pub plan_of : IsPlan (hub_sends hub entry.event x.queue.link) x (Some p)
  plan_of = subst (λ o. IsPlan (hub_sends hub entry.event x.queue.link) x o) plan planned

  -- the queue by the tests of the entry
  pub queue_by : x.queue.is_up ≡ true → queued_by hub entry x.queue ≡ cond (is_among entry.closed x.queue.link) (with_closed x.queue (length p.parcels.batches))
      (cond (is_among entry.dropped x.queue.link) x.queue (with_parcels x.queue p.parcels))
  queue_by up =
      ap (λ b. cond b x.queue
      (cond (is_among entry.closed x.queue.link) (with_closed x.queue (length (batches_for hub entry.event x.queue.outbox x.queue.link).batches))
      (cond (is_among entry.dropped x.queue.link) x.queue (with_parcels x.queue (batches_for hub entry.event x.queue.outbox x.queue.link)))))
      (ap (λ u. not u || is_some x.queue.closed) up ∙ ap is_some plan_of.0)
      ∙ ap (λ z. cond (is_among entry.closed x.queue.link) (with_closed x.queue (length z.batches)) (cond (is_among entry.dropped x.queue.link) x.queue (with_parcels x.queue z)))
      (sym plan_of.1)

  pub queue_closed : x.queue.is_up ≡ true → is_among entry.closed x.queue.link ≡ true → queued_by hub entry x.queue ≡ with_closed x.queue (length p.parcels.batches)
  queue_closed up among =
      queue_by up ∙ ap (λ b. cond b (with_closed x.queue (length p.parcels.batches)) (cond (is_among entry.dropped x.queue.link) x.queue (with_parcels x.queue p.parcels))) among

  pub queue_given : x.queue.is_up ≡ true → is_among entry.closed x.queue.link ≡ false → is_among entry.dropped x.queue.link ≡ false →
      queued_by hub entry x.queue ≡ with_parcels x.queue p.parcels
  queue_given up other neither =
      queue_by up ∙ ap (λ b. cond b (with_closed x.queue (length p.parcels.batches)) (cond (is_among entry.dropped x.queue.link) x.queue (with_parcels x.queue p.parcels))) other
      ∙ ap (λ b. cond b x.queue (with_parcels x.queue p.parcels)) neither

-- what the list that the entry ends queues
module _ (me : List ℕ) (h : List Entry) (hub : HubState) (entry : Entry) (x : EndState) (p : PlanState) (en : IsEntered me h hub entry x) (plan : x.plan ≡ Some p) (up : x.queue.is_up ≡ true) where
  -- the end of the ring of a link that is closed is vouched for
  pub closed_vouched : is_among entry.closed x.queue.link ≡ true → Vouches me x.queue.link h (end (Some full_reason)) (length x.queue.batches)
  closed_vouched among = (
    ap length (sym (ap (λ q. q.batches) (queue_closed hub entry x p en.planned plan up among)) ∙ sym en.queue),
    ap (λ l. last_passes (ends_by x.queue.link (Some full_reason)) l) en.last.1 ∙ last_snoc (ends_by x.queue.link (Some full_reason)) en.last.0 entry
        ∙ ap (λ b. is_down_with x.queue.link (Some full_reason) entry.event entry.reason || (b && true)) among ∙ or-true (is_down_with x.queue.link (Some full_reason) entry.event entry.reason),
  )

  -- a link that is neither closed nor left out has room for its parcels, which the list queues behind the others
  pub given_room : is_among entry.closed x.queue.link ≡ false → is_among entry.dropped x.queue.link ≡ false → length p.parcels.batches ≤ x.free
  given_room other neither =
      let shut : (lacks_room x.free p && not p.droppable) ≡ false =
      ap (λ o. option_map_or (λ q. lacks_room x.free q && not q.droppable) o false) (sym plan) ∙ sym en.closed ∙ other in
      let left : (lacks_room x.free p && p.droppable) ≡ false =
      ap (λ o. option_map_or (λ q. lacks_room x.free q && q.droppable) o false) (sym plan) ∙ sym en.dropped ∙ neither in
      let none : nat_lt x.free (length p.parcels.batches) ≡ false = neither_lacks (lacks_room x.free p) p.droppable shut left in
      grind (arith, nat_tests, none)
    where
      neither_lacks : (b d : Bool) → (b && not d) ≡ false → (b && d) ≡ false → b ≡ false
      neither_lacks false d e f = refl
      neither_lacks true true e f = cc
      neither_lacks true false e f = cc

  pub given_queued : is_among entry.closed x.queue.link ≡ false → is_among entry.dropped x.queue.link ≡ false →
      queued me h x.queue.link ≡ x.queue.batches ++ p.parcels.batches
  given_queued other neither = en.queue ∙ ap (λ q. q.batches) (queue_given hub entry x p en.planned plan up other neither)
