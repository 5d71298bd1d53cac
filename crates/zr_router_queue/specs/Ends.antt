-- A link that is up, as the tables keep it, and what an event has for it.
use Rattle.std.specs.Prelude.{◌≡◌, ℕ, ◌+◌, ◌<◌, ◌&&◌, ◌++◌, not, nat_lt, Bool, true, false, List, [], ◌∷◌, length, map, Option, Some, None, IfSome, is_some, is_none}
use Rattle.std.specs.Option.{option_map_or}
use Rattle.std.specs.List.{AllByRecursion, AllZip, filter}
use Rattle.atomic_table.specs.Seated.{TableId}
use Rattle.zr_msg.specs.declared.event.Event.{Event}
use Rattle.zr_msg.specs.declared.msg.Msg.{Msg}
use Rattle.zr_ring.specs.declared.name.RingName.{RingName}
use Rattle.zr_ring.specs.declared.parcel.Note.{Ghosts}
use Rattle.zr_ring.specs.declared.giver.Giver.{Giver}
use Rattle.zr_ring.specs.declared.taker.Taker.{Taker}
use Rattle.zr_ring.specs.Giver.{giver_name}
use Rattle.zr_ring.specs.Taker.{taker_name}
use Rattle.zr_told_spec.specs.Hub.{HubState, hub_refuses, hub_sends}
use Rattle.zr_frame.specs.Packing.{Parcels}
use Rattle.zr_frame_pack.specs.Packing.{parcels_of}
use Rattle.zr_port.specs.declared.entry.Entry.{Entry}
use Rattle.zr_router_queue.specs.Tables.{LinkQueue, batches_for, slots_of, is_droppable, is_among, queued, queued_by, queues_at, replay, open_queues}
use Rattle.zr_router_queue.specs.Note.{FitsRing, full_reason}
use Rattle.zr_router_queue.specs.History.{has_parts, is_legal, may_come}

-- what an event has for a link: its parcels, and whether it is one sample that may be dropped
pub record PlanState : Type 0 where
  pub parcels : Parcels
  pub droppable : Bool

-- a ring: its table, and its name
pub record RingState : Type 0 where
  pub table : TableId
  pub name : RingName

-- what was queued for the link, its ring, the free slots of the ring that are known, how often the ring was asked for them, and the event's plan
-- for the link
pub record EndState : Type 0 where
  pub queue : LinkQueue
  pub ring : RingState
  pub free : ℕ
  pub calls : ℕ
  pub plan : Option PlanState

-- the ring that one gives to, and the one that one takes from
module _ {N : Type 0} {g : Ghosts N} where
  abbrev pub giver_ring : Giver N g → RingState
  giver_ring x = record { table = x.ring.seat.table_id; name = giver_name x }

  abbrev pub taker_ring : Taker N g → RingState
  taker_ring t = record { table = t.ring.seat.table_id; name = taker_name t }

-- a new link's ring is empty
abbrev pub new_end : LinkQueue → RingState → EndState
new_end q ring = record { queue = q; ring = ring; free = slots_of q.role; calls = 0; plan = None }

-- the same end with another queue
abbrev pub with_queue : EndState → LinkQueue → EndState
with_queue e q = record { queue = q; ring = e.ring; free = e.free; calls = e.calls; plan = e.plan }

-- the ring's name is that of its router's link, as it came up last in a list
abbrev pub IsNamed : List ℕ → List Entry → EndState → Type 0
IsNamed me h e = FitsRing e.ring.name me e.queue.link h

-- it is the same ring, which was asked for its free slots once more where the event has parcels for the link
abbrev pub IsAsked : EndState → EndState → Type 0
IsAsked old new = (new.ring ≡ old.ring) × IfSome new.plan (λ p. 0 < length p.parcels.batches → new.calls ≡ old.calls + 1)

-- the same was queued for the link, and it has the same ring
abbrev pub IsStill : EndState → EndState → Type 0
IsStill old new = (new.queue ≡ old.queue) × (new.ring ≡ old.ring)

-- it is the same ring, which was not asked again: the free slots that are known are fewer by the parcels that it was given
abbrev pub IsSameRing : EndState → EndState → Type 0
IsSameRing old new = (new.ring ≡ old.ring) × (new.calls ≡ old.calls) × (new.free + length new.queue.batches ≡ old.free + length old.queue.batches)

-- the reason with which the ring of a link that goes down has its end: that of a full ring where an event had closed the link
abbrev pub last_reason : Option ℕ → Option ℕ → Option ℕ
last_reason None reason = reason
last_reason (Some asked) reason = Some full_reason

-- so many parcels and all that were queued for the link are more than its ring has slots
abbrev pub IsOver : LinkQueue → ℕ → Type 0
IsOver q n = slots_of q.role < length q.batches + n

-- the ring lacks room for what an event has for its link
abbrev pub lacks_room : ℕ → PlanState → Bool
lacks_room free p = nat_lt free (length p.parcels.batches)

-- the link is one to which one sample isn't sent for want of room
abbrev pub is_dropped : EndState → Bool
is_dropped e = option_map_or (λ p. lacks_room e.free p && p.droppable) e.plan false

-- the link is one that is closed for want of room
abbrev pub is_closing : EndState → Bool
is_closing e = option_map_or (λ p. lacks_room e.free p && not p.droppable) e.plan false

-- the plan is that of messages for the link, in parcels; there is none for a link that was closed before
abbrev pub IsPlan : List Msg → EndState → Option PlanState → Type 0
IsPlan messages e None = is_some e.queue.closed ≡ true
IsPlan messages e (Some p) = (e.queue.closed ≡ None) × (p.parcels ≡ parcels_of e.queue.outbox messages)
    × (p.droppable ≡ is_droppable messages) × (e.free < length p.parcels.batches → IsOver e.queue (length p.parcels.batches))

abbrev pub IsPlannedFor : List Msg → EndState → Type 0
IsPlannedFor messages e = IsPlan messages e e.plan

-- the plan of an event for a link is that of what the event sends it
abbrev pub IsPlanned : HubState → Event → EndState → Type 0
IsPlanned hub event e = IsPlannedFor (hub_sends hub event e.queue.link) e

-- the end was planned anew for these messages
abbrev pub IsPlannedAnew : List Msg → EndState → EndState → Type 0
IsPlannedAnew messages old new = (new.queue ≡ old.queue) × IsPlannedFor messages new × IsAsked old new

-- what an entry makes of the end that it was planned for
abbrev pub IsSettled : Entry → EndState → EndState → Type 0
IsSettled entry old new = ((hub : HubState) → IsPlanned hub entry.event old → new.queue ≡ queued_by hub entry old.queue) × IsSameRing old new

-- An entry stands last in a list, which queues for the link what the entry makes of its queue. The entry goes by the plan: it names the link
-- exactly where its ring lacks room
pub record IsEntered (me : List ℕ) (h : List Entry) (hub : HubState) (entry : Entry) (e : EndState) : Type 0 where
  pub planned : IsPlanned hub entry.event e
  pub last : (before : List Entry) × (h ≡ before ++ entry ∷ [])
  pub queue : queued me h e.queue.link ≡ (queued_by hub entry e.queue).batches
  pub closed : is_among entry.closed e.queue.link ≡ is_closing e
  pub dropped : is_among entry.dropped e.queue.link ≡ is_dropped e
  pub named : IsNamed me h e

-- how many parcels an event has for a link
abbrev pub parcels_for : HubState → Event → LinkQueue → ℕ
parcels_for hub event q = length (batches_for hub event q.outbox q.link).batches

-- no event has closed the link before, and this one has more parcels for it than its ring has free slots
abbrev pub is_too_full : ℕ → HubState → Event → LinkQueue → Bool
is_too_full free hub event q = is_none q.closed && nat_lt free (parcels_for hub event q)

-- An entry goes by the ring of a link that is up. Where the event has parcels for the link, which no event has closed before, the ring was asked once
-- more for its free slots. The entry names the link exactly where the parcels are more than the answer: as one to which one sample isn't sent, or
-- else as one that is closed. The ring, which stays the same one, is given what the entry queues, and has so many free slots fewer
pub record GoesByRing (hub : HubState) (entry : Entry) (old new : EndState) : Type 0 where
  pub answer : ℕ
  pub asked : old.queue.closed ≡ None → 0 < parcels_for hub entry.event old.queue → new.calls ≡ old.calls + 1
  pub dropped : is_among entry.dropped old.queue.link ≡ (is_too_full answer hub entry.event old.queue && is_droppable (hub_sends hub entry.event old.queue.link))
  pub closed : is_among entry.closed old.queue.link ≡ (is_too_full answer hub entry.event old.queue && not (is_droppable (hub_sends hub entry.event old.queue.link)))
  pub ring : new.ring ≡ old.ring
  pub queue : new.queue ≡ queued_by hub entry old.queue
  pub free : new.free + length new.queue.batches ≡ answer + length old.queue.batches

-- an entry that comes after a list goes by the rings of all links that are up as its event comes
abbrev pub GoesByRings : List ℕ → List Entry → Entry → List EndState → List EndState → Type 0
GoesByRings me h entry old new = AllZip (λ o n. GoesByRing (replay me h).hub entry o n) old new

-- the tables are the replay of a list: the router itself, and the queues of the links that are up, in the order in which they came up; and each
-- ring's name is its link's
pub record IsReplay (me : List ℕ) (h : List Entry) (hub : HubState) (ends : List EndState) : Type 0 where
  pub hub_is : hub ≡ (replay me h).hub
  pub queues : map (λ e. e.queue) ends ≡ open_queues (replay me h)
  pub named : AllByRecursion (λ e. IsNamed me h e) ends

-- An event has come after a legal list, and was planned for each link that is up then. Its entry may follow: it names the links whose rings
-- lack room for their plans. With it each ring's name is its link's
pub record MayEnter (me : List ℕ) (h : List Entry) (entry : Entry) (ends : List EndState) : Type 0 where
  pub legal : is_legal me h ≡ true
  pub comes : may_come (replay me h).hub.node entry.event ≡ true
  pub taken : hub_refuses (replay me h).hub entry.event ≡ None
  pub parts : has_parts entry.event (is_some entry.outbox) (is_some entry.reason) ≡ true
  pub queues : map (λ e. e.queue) ends ≡ filter (λ q. q.is_up) (queues_at (replay me h).queues entry.event entry.outbox)
  pub planned : AllByRecursion (λ e. IsPlanned (replay me h).hub entry.event e) ends
  pub dropped : entry.dropped ≡ map (λ e. e.queue.link) (filter (λ e. is_dropped e) ends)
  pub closed : entry.closed ≡ map (λ e. e.queue.link) (filter (λ e. is_closing e) ends)
  pub named : AllByRecursion (λ e. IsNamed me (h ++ entry ∷ []) e) ends
