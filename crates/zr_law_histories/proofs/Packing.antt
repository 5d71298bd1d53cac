-- The queue of a link that is up, entry by entry (`queues_are_packed`).
use Rattle.std.proofs.Common.{◌≡◌, Bool, true, false, cond, not, List, [], ◌∷◌, ◌++◌, length, map, filter, find, Option, Some, None, refl, sym, ap, ◌∙◌, append-nil, append_assoc, eqb-true, eq-eqb}
use Rattle.std.specs.Prelude.{◌==◌, ◌||◌, is_some}
use Rattle.std.specs.Option.{option_map}
use Rattle.std.proofs.lemmas.Bool.{false≢true}
use Rattle.zr_id.specs.declared.link.LinkNo.{LinkNo}
use Rattle.zr_msg.specs.declared.event.Event.{Event}
use Rattle.zr_msg.specs.declared.event.Event.TheVariants.{Up, Down, From}
use Rattle.zr_told_spec.specs.Hub.{HubState}
use Rattle.zr_frame.specs.Outbox.{OutboxState}
use Rattle.zr_port.specs.declared.entry.Entry.{Entry}
use Rattle.zr_router_queue.specs.Tables.{LinkQueue, batches_for, is_among, with_parcels, with_closed, queued_by, new_queue, with_down, other_queues, queues_at, advanced}
use Rattle.zr_law_histories.specs.Packing.{sent_on, packed, touches, QueuesArePacked}

module _ {X : Type 0} (p : X → Bool) where
  find_mapped : (f : X → X) → ((x : X) → p (f x) ≡ p x) → (xs : List X) → find p (map f xs) ≡ option_map f (find p xs)
  find_mapped f same [] = refl
  find_mapped f same (x ∷ xs) = ap (λ b. cond b (Some (f x)) (find p (map f xs))) (same x) ∙ by (p x) (find_mapped f same xs)
    where
      by : (b : Bool) → find p (map f xs) ≡ option_map f (find p xs) → cond b (Some (f x)) (find p (map f xs)) ≡ option_map f (cond b (Some x) (find p xs))
      by true ih = refl
      by false ih = ih

  find_front : (xs ys : List X) (x : X) → find p xs ≡ Some x → find p (xs ++ ys) ≡ Some x
  find_front [] ys x h = absurd (false≢true (ap is_some h))
  find_front (y ∷ xs) ys x h = by (p y) h (find_front xs ys x)
    where
      by : (b : Bool) → cond b (Some y) (find p xs) ≡ Some x → (find p xs ≡ Some x → find p (xs ++ ys) ≡ Some x) → cond b (Some y) (find p (xs ++ ys)) ≡ Some x
      by true h ih = h
      by false h ih = ih h

  find_kept : (r : X → Bool) → ((x : X) → p x ≡ true → r x ≡ true) → (xs : List X) (x : X) → find p xs ≡ Some x → find p (filter r xs) ≡ Some x
  find_kept r so [] x h = h
  find_kept r so (y ∷ xs) x h = by (p y) (r y) refl refl h (find_kept r so xs x)
    where
      by : (b c : Bool) → p y ≡ b → r y ≡ c → cond b (Some y) (find p xs) ≡ Some x → (find p xs ≡ Some x → find p (filter r xs) ≡ Some x) →
          find p (cond c (y ∷ filter r xs) (filter r xs)) ≡ Some x
      by true true i j h ih = ap (λ b. cond b (Some y) (find p (filter r xs))) i ∙ h
      by true false i j h ih = absurd (false≢true (sym j ∙ so y i))
      by false true i j h ih = ap (λ b. cond b (Some y) (find p (filter r xs))) i ∙ ih h
      by false false i j h ih = ih h

abbrev is_of : LinkNo → LinkQueue → Bool
is_of link q = q.link.0 == link.0

-- an event that doesn't touch the link leaves its queue
untouched : (queues : List LinkQueue) (event : Event) (outbox : Option OutboxState) (q : LinkQueue) → touches q.link event ≡ false → find (is_of q.link) queues ≡ Some q →
    find (is_of q.link) (queues_at queues event outbox) ≡ Some q
untouched queues (Up l peer) None q apart h = h
untouched queues (Up l peer) (Some outbox) q apart h =
    find_front (is_of q.link) (other_queues queues l) (new_queue l peer.role outbox ∷ []) q (find_kept (is_of q.link) (λ z. not (z.link.0 == l.0)) other queues q h)
  where
    other : (z : LinkQueue) → (z.link.0 == q.link.0) ≡ true → not (z.link.0 == l.0) ≡ true
    other z i = by (z.link.0 == l.0) refl
      where
        by : (b : Bool) → (z.link.0 == l.0) ≡ b → not b ≡ true
        by false j = refl
        by true j =
            let same : l.0 ≡ q.link.0 = sym (eqb-true z.link.0 l.0 j) ∙ eqb-true z.link.0 q.link.0 i in
            absurd (false≢true (sym apart ∙ eq-eqb l.0 q.link.0 same))
untouched queues (Down l) outbox q apart h =
    find_mapped (is_of q.link) (with_down l) keeps queues ∙ ap (option_map (with_down l)) h ∙ ap Some (by (q.link.0 == l.0) refl)
  where
    down : LinkQueue → LinkQueue
    down z = record { link = z.link; role = z.role; is_up = false; outbox = z.outbox; batches = z.batches; closed = z.closed }

    keeps : (z : LinkQueue) → is_of q.link (with_down l z) ≡ is_of q.link z
    keeps z = one (z.link.0 == l.0)
      where
        one : (b : Bool) → is_of q.link (cond b (record { link = z.link; role = z.role; is_up = false; outbox = z.outbox; batches = z.batches; closed = z.closed }) z) ≡ is_of q.link z
        one true = refl
        one false = refl

    by : (b : Bool) → (q.link.0 == l.0) ≡ b → cond b (record { link = q.link; role = q.role; is_up = false; outbox = q.outbox; batches = q.batches; closed = q.closed }) q ≡ q
    by false j = refl
    by true j = absurd (false≢true (sym apart ∙ eq-eqb l.0 q.link.0 (sym (eqb-true q.link.0 l.0 j))))
untouched queues (From l msg) outbox q apart h = h

-- an entry leaves each queue with its link
link_kept : (hub : HubState) (e : Entry) (link : LinkNo) (q : LinkQueue) → is_of link (queued_by hub e q) ≡ is_of link q
link_kept hub e link q = by (not q.is_up || is_some q.closed) (is_among e.closed q.link) (is_among e.dropped q.link)
  where
    by : (b c d : Bool) → is_of link (cond b q (cond c (with_closed q (length (batches_for hub e.event q.outbox q.link).batches)) (cond d q (with_parcels q (batches_for hub e.event q.outbox q.link))))) ≡ is_of link q
    by true c d = refl
    by false true d = refl
    by false false true = refl
    by false false false = refl

-- where it leaves nothing out, all is queued
all_queued : (hub : HubState) (e : Entry) (q : LinkQueue) → q.is_up ≡ true → q.closed ≡ None → e.dropped ≡ [] → e.closed ≡ [] → queued_by hub e q ≡ with_parcels q (batches_for hub e.event q.outbox q.link)
all_queued hub e q up going dropped closed =
    ap (λ b. cond (not b || is_some q.closed) q left) up ∙ ap (λ o. cond (is_some o) q left) going
    ∙ ap (λ ls. cond (is_among ls q.link) (with_closed q (length (batches_for hub e.event q.outbox q.link).batches)) (cond (is_among e.dropped q.link) q all)) closed
    ∙ ap (λ ls. cond (is_among ls q.link) q all) dropped
  where
    all : LinkQueue
    all = with_parcels q (batches_for hub e.event q.outbox q.link)

    left : LinkQueue
    left = cond (is_among e.closed q.link) (with_closed q (length (batches_for hub e.event q.outbox q.link).batches)) (cond (is_among e.dropped q.link) q all)

pub queues_are_packed : QueuesArePacked
queues_are_packed t q [] h up going keep = h ∙ ap (λ bs. Some (record { link = q.link; role = q.role; is_up = q.is_up; outbox = q.outbox; batches = bs; closed = q.closed })) (sym (append-nil q.batches))
queues_are_packed t q (e ∷ es) h up going keep =
    queues_are_packed (advanced t e) now es found up going keep.1
    ∙ ap (λ bs. Some (record { link = q.link; role = q.role; is_up = q.is_up; outbox = (packed now.outbox (sent_on (advanced t e).hub es q.link)).outbox; batches = bs; closed = q.closed }))
    (append_assoc q.batches (batches_for t.hub e.event q.outbox q.link).batches (packed now.outbox (sent_on (advanced t e).hub es q.link)).batches)
  where
    now : LinkQueue
    now = with_parcels q (batches_for t.hub e.event q.outbox q.link)

    found : find (is_of q.link) (advanced t e).queues ≡ Some now
    found = find_mapped (is_of q.link) (queued_by t.hub e) (link_kept t.hub e q.link) (queues_at t.queues e.event e.outbox)
        ∙ ap (option_map (queued_by t.hub e)) (untouched t.queues e.event e.outbox q keep.0.0 h) ∙ ap Some (all_queued t.hub e q up going keep.0.1 keep.0.2)
