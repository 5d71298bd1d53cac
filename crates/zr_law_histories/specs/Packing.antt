-- What a history queues for a link, as bytes: where nothing is left out and no link is closed, just the messages that the router sends on it, each
-- packed behind the one before.
use Rattle.std.specs.Prelude.{◌≡◌, ◌==◌, Bool, true, false, List, [], ◌∷◌, ◌++◌, Some, None}
use Rattle.std.specs.List.{AllByRecursion}
use Rattle.zr_id.specs.declared.link.LinkNo.{LinkNo}
use Rattle.zr_msg.specs.declared.event.Event.{Event}
use Rattle.zr_msg.specs.declared.event.Event.TheVariants.{Up, Down, From}
use Rattle.zr_msg.specs.declared.msg.Msg.{Msg}
use Rattle.zr_told_spec.specs.Hub.{HubState, hub_after, hub_sends}
use Rattle.zr_frame.specs.Outbox.{OutboxState}
use Rattle.zr_frame.specs.Packing.{Parcels}
use Rattle.zr_frame_pack.specs.Packing.{parcels_of}
use Rattle.zr_port.specs.declared.entry.Entry.{Entry}
use Rattle.zr_router_queue.specs.Tables.{LinkQueue, Tables, with_parcels, replay_from, queue_of}

-- the messages that entries send on a link, entry by entry
abbrev pub sent_on : HubState → List Entry → LinkNo → List (List Msg)
sent_on hub [] link = []
sent_on hub (e ∷ es) link = hub_sends hub e.event link ∷ sent_on (hub_after hub e.event) es link

-- first some parcels, and then those that follow
abbrev pub and_then : Parcels → Parcels → Parcels
and_then first more = record { outbox = more.outbox; batches = first.batches ++ more.batches }

-- the parcels of messages, entry by entry
abbrev pub packed : OutboxState → List (List Msg) → Parcels
packed outbox [] = record { outbox = outbox; batches = [] }
packed outbox (msgs ∷ more) = and_then (parcels_of outbox msgs) (packed (parcels_of outbox msgs).outbox more)

-- the event brings the link up or down
abbrev pub touches : LinkNo → Event → Bool
touches link (Up l peer) = l.0 == link.0
touches link (Down l) = l.0 == link.0
touches link (From l msg) = false

-- the entry keeps the link as it is, and all that it sends is queued
abbrev pub Keeps : LinkNo → Entry → Type 0
Keeps link e = (touches link e.event ≡ false) × (e.dropped ≡ []) × (e.closed ≡ [])

-- while a link is up, it is queued the parcels of the messages that the router sends on it
abbrev pub QueuesArePacked : Type 0
QueuesArePacked = (t : Tables) (q : LinkQueue) (es : List Entry) → queue_of t q.link ≡ Some q → q.is_up ≡ true → q.closed ≡ None → AllByRecursion (Keeps q.link) es →
    queue_of (replay_from t es) q.link ≡ Some (with_parcels q (packed q.outbox (sent_on t.hub es q.link)))
