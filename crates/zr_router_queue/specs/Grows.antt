-- While a link isn't brought up anew, what a list of entries queues for it is a prefix of what every longer list queues. The law stands here, without
-- tactics, since an `impl` cites it.
use Rattle.std.specs.Prelude.{ℕ, ◌==◌, ◌||◌, not, Bool, true, false, List, [], ◌∷◌, ◌++◌, length, Option, Some, None, map, filter, option_map, is_some}
use Rattle.std.proofs.Common.{◌≡◌, cond, refl, sym, ap, subst, ◌∙◌}
use mathlib.Core.List.{IsPrefix}
use Rattle.std.specs.List.{find, list_any}
use Rattle.std.specs.Option.{option_map_or, option_or}
use Rattle.std.proofs.lemmas.Bool.{eqb-true, true≢false}
use Rattle.std.proofs.lemmas.List.Folds.{find-append}
use Rattle.zr_lists.proofs.Options.{option_or-none}
use Rattle.zr_lists.proofs.Numbers.{turned}
use Rattle.zr_lists.proofs.Prefixes.{prefix_self, prefix_trans}
use Rattle.zr_id.specs.declared.link.LinkNo.{LinkNo}
use Rattle.zr_msg.specs.declared.event.Event.{Event}
use Rattle.zr_msg.specs.declared.event.Event.TheVariants.{Up, Down, From}
use Rattle.zr_told_spec.specs.Hub.{HubState}
use Rattle.zr_frame.specs.Outbox.{OutboxState}
use Rattle.zr_frame.specs.Packing.{Parcels}
use Rattle.zr_port.specs.declared.entry.Entry.{Entry}
use Rattle.zr_router_queue.specs.Tables.{LinkQueue, Tables, new_tables, new_queue, with_down, with_parcels, with_closed, other_queues, queues_at, queued_by, batches_for, is_among, advanced, replay_from, replay, queue_of, queued}
use Rattle.zr_router_queue.specs.History.{is_legal, renews, brings_up}

-- ---- looking for one in a list

-- where all that is looked for passes a test, it is found among those that pass
pub find_kept : {X : Type 0} (p q : X → Bool) → ((x : X) → p x ≡ true → q x ≡ true) → (xs : List X) → find p (filter q xs) ≡ find p xs
find_kept {X} p q h [] = refl
find_kept {X} p q h (x ∷ xs) = by (p x) (q x) refl refl (find_kept p q h xs)
  where
    by : (a b : Bool) → p x ≡ a → q x ≡ b → find p (filter q xs) ≡ find p xs → find p (cond b (x ∷ filter q xs) (filter q xs)) ≡ cond a (Some x) (find p xs)
    by true true e f ih = ap (λ b. cond b (Some x) (find p (filter q xs))) e
    by true false e f ih = absurd (true≢false (sym (h x e) ∙ f))
    by false true e f ih = ap (λ b. cond b (Some x) (find p (filter q xs))) e ∙ ih
    by false false e f ih = ih

-- a change that leaves the test as it is
pub find_changed : {X : Type 0} (test : X → Bool) (f : X → X) → ((x : X) → test (f x) ≡ test x) → (xs : List X) → find test (map f xs) ≡ option_map f (find test xs)
find_changed test f same [] = refl
find_changed test f same (x ∷ xs) = ap (λ b. cond b (Some (f x)) (find test (map f xs))) (same x) ∙ by (test x) (find_changed test f same xs)
  where
    by : (b : Bool) → find test (map f xs) ≡ option_map f (find test xs) → cond b (Some (f x)) (find test (map f xs)) ≡ option_map f (cond b (Some x) (find test xs))
    by true ih = refl
    by false ih = ih

others_differ : (a b n : ℕ) → (b == n) ≡ false → (a == n) ≡ true → not (a == b) ≡ true
others_differ a b n e p = ap (λ m. not (m == b)) (eqb-true a n p) ∙ ap not (turned b n e)

-- ---- what an entry leaves of a queue

-- what neither more parcels nor a closing changes of a queue, no entry changes
stays : {Y : Type 0} (f : LinkQueue → Y) (hub : HubState) (e : Entry) (q : LinkQueue) → ((p : Parcels) → f (with_parcels q p) ≡ f q) → ((n : ℕ) → f (with_closed q n) ≡ f q) →
    f (queued_by hub e q) ≡ f q
stays f hub e q more shut = by (not q.is_up || is_some q.closed) (is_among e.closed q.link) (is_among e.dropped q.link)
  where
    by : (a b d : Bool) → f (cond a q (cond b (with_closed q (length (batches_for hub e.event q.outbox q.link).batches)) (cond d q (with_parcels q (batches_for hub e.event q.outbox q.link))))) ≡ f q
    by true b d = refl
    by false true d = shut (length (batches_for hub e.event q.outbox q.link).batches)
    by false false true = refl
    by false false false = more (batches_for hub e.event q.outbox q.link)

pub stays_up : (hub : HubState) (e : Entry) (q : LinkQueue) → (queued_by hub e q).is_up ≡ q.is_up
stays_up hub e q = stays (λ q. q.is_up) hub e q (λ p. refl) (λ n. refl)

pub keeps_link : (hub : HubState) (e : Entry) (q : LinkQueue) → (queued_by hub e q).link ≡ q.link
keeps_link hub e q = stays (λ q. q.link) hub e q (λ p. refl) (λ n. refl)

-- the queue of a link, after an entry
pub queue_after : (t : Tables) (e : Entry) (link : LinkNo) →
    queue_of (advanced t e) link ≡ option_map (queued_by t.hub e) (find (λ q. q.link.0 == link.0) (queues_at t.queues e.event e.outbox))
queue_after t e link = find_changed (λ q. q.link.0 == link.0) (queued_by t.hub e) (λ q. ap (λ l. l.0 == link.0) (keeps_link t.hub e q)) (queues_at t.queues e.event e.outbox)

pub down_number : (link : LinkNo) (q : LinkQueue) → (with_down link q).link.0 ≡ q.link.0
down_number link q = by (q.link.0 == link.0)
  where
    by : (b : Bool) → (cond b (record { link = q.link; role = q.role; is_up = false; outbox = q.outbox; batches = q.batches; closed = q.closed }) q).link.0 ≡ q.link.0
    by true = refl
    by false = refl

-- ---- prefixes

-- what one entry makes of a queue
grown : (hub : HubState) (e : Entry) (q : LinkQueue) → IsPrefix q.batches (queued_by hub e q).batches
grown hub e q = by (not q.is_up || is_some q.closed) (is_among e.closed q.link) (is_among e.dropped q.link)
  where
    by : (a b d : Bool) → IsPrefix q.batches (cond a q (cond b (with_closed q (length (batches_for hub e.event q.outbox q.link).batches)) (cond d q (with_parcels q (batches_for hub e.event q.outbox q.link))))).batches
    by true b d = prefix_self q.batches
    by false true d = prefix_self q.batches
    by false false true = prefix_self q.batches
    by false false false = ((batches_for hub e.event q.outbox q.link).batches, refl)

down_batches : (link : LinkNo) (q : LinkQueue) → (with_down link q).batches ≡ q.batches
down_batches link q = by (q.link.0 == link.0)
  where
    by : (b : Bool) → (cond b (record { link = q.link; role = q.role; is_up = false; outbox = q.outbox; batches = q.batches; closed = q.closed }) q).batches ≡ q.batches
    by true = refl
    by false = refl

itself : {X : Type 0} (o : Option X) → o ≡ option_map (λ x. x) o
itself None = refl
itself (Some x) = refl

-- the queue of a link is still there, with its parcels, where an event has come that doesn't bring it up
abbrev StaysAt : List LinkQueue → LinkNo → List LinkQueue → Type 0
StaysAt queues link others = (f : LinkQueue → LinkQueue) × (find (λ q. q.link.0 == link.0) others ≡ option_map f (find (λ q. q.link.0 == link.0) queues))
    × ((q : LinkQueue) → (f q).batches ≡ q.batches)

stays_at : (queues : List LinkQueue) (event : Event) (outbox : Option OutboxState) (link : LinkNo) → brings_up link event ≡ false → StaysAt queues link (queues_at queues event outbox)
stays_at queues (Up l peer) None link old = ((λ q. q), itself (find (λ q. q.link.0 == link.0) queues), (λ q. refl))
stays_at queues (Up l peer) (Some outbox) link old = (
  (λ q. q),
  find-append (λ q. q.link.0 == link.0) (other_queues queues l) (new_queue l peer.role outbox ∷ [])
      ∙ ap (λ b. option_or (find (λ q. q.link.0 == link.0) (other_queues queues l)) (cond b (Some (new_queue l peer.role outbox)) None)) old
      ∙ option_or-none (find (λ q. q.link.0 == link.0) (other_queues queues l))
      ∙ find_kept (λ q. q.link.0 == link.0) (λ q. not (q.link.0 == l.0)) (λ q p. others_differ q.link.0 l.0 link.0 old p) queues
      ∙ itself (find (λ q. q.link.0 == link.0) queues),
  (λ q. refl),
)
stays_at queues (Down l) outbox link old = (with_down l, find_changed (λ q. q.link.0 == link.0) (with_down l) (λ q. ap (λ m. m == link.0) (down_number l q)) queues, down_batches l)
stays_at queues (From l msg) outbox link old = ((λ q. q), itself (find (λ q. q.link.0 == link.0) queues), (λ q. refl))

step_grows : (t : Tables) (e : Entry) (link : LinkNo) → renews link e ≡ false →
    IsPrefix (option_map_or (λ q. q.batches) (queue_of t link) []) (option_map_or (λ q. q.batches) (queue_of (advanced t e) link) [])
step_grows t e link old =
    let s = stays_at t.queues e.event e.outbox link old in
    let is : queue_of (advanced t e) link ≡ option_map (queued_by t.hub e) (option_map s.0 (queue_of t link)) = queue_after t e link ∙ ap (λ o. option_map (queued_by t.hub e) o) s.1 in
    subst (λ o. IsPrefix (option_map_or (λ q. q.batches) (queue_of t link) []) (option_map_or (λ q. q.batches) o [])) (sym is) (by s.0 s.2 (queue_of t link))
  where
    by : (f : LinkQueue → LinkQueue) → ((q : LinkQueue) → (f q).batches ≡ q.batches) → (o : Option LinkQueue) →
        IsPrefix (option_map_or (λ q. q.batches) o []) (option_map_or (λ q. q.batches) (option_map (queued_by t.hub e) (option_map f o)) [])
    by f same None = prefix_self []
    by f same (Some q) = subst (λ bs. IsPrefix bs (queued_by t.hub e (f q)).batches) (same q) (grown t.hub e (f q))

more_grows : (t : Tables) (more : List Entry) (link : LinkNo) → list_any (λ e. renews link e) more ≡ false →
    IsPrefix (option_map_or (λ q. q.batches) (queue_of t link) []) (option_map_or (λ q. q.batches) (queue_of (replay_from t more) link) [])
more_grows t [] link old = prefix_self (option_map_or (λ q. q.batches) (queue_of t link) [])
more_grows t (e ∷ es) link old = by (renews link e) refl old (λ rest. more_grows (advanced t e) es link rest)
  where
    by : (b : Bool) → renews link e ≡ b → (b || list_any (λ e. renews link e) es) ≡ false
        → (list_any (λ e. renews link e) es ≡ false
        → IsPrefix (option_map_or (λ q. q.batches) (queue_of (advanced t e) link) []) (option_map_or (λ q. q.batches) (queue_of (replay_from (advanced t e) es) link) []))
        → IsPrefix (option_map_or (λ q. q.batches) (queue_of t link) []) (option_map_or (λ q. q.batches) (queue_of (replay_from (advanced t e) es) link) [])
    by true is old ih = absurd (true≢false old)
    by false is old ih = prefix_trans _ _ _ (step_grows t e link is) (ih old)

replay_append : (t : Tables) (h more : List Entry) → replay_from t (h ++ more) ≡ replay_from (replay_from t h) more
replay_append t [] more = refl
replay_append t (e ∷ es) more = replay_append (advanced t e) es more

-- as the trait of queues wants it; that the list is legal isn't needed
pub queued_grows : (me : List ℕ) (link : LinkNo) (h more : List Entry) → is_legal me (h ++ more) ≡ true → list_any (λ e. renews link e) more ≡ false →
    IsPrefix (queued me h link) (queued me (h ++ more) link)
queued_grows me link h more legal old =
    subst (λ t. IsPrefix (queued me h link) (option_map_or (λ q. q.batches) (queue_of t link) [])) (sym (replay_append (new_tables me) h more)) (more_grows (replay me h) more link old)
