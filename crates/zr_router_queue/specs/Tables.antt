-- The tables of a running router: the router itself, and what was queued for each link since it came up last. Entries of its history are folded
-- over them.
use Rattle.std.specs.Prelude.{ℕ, ◌==◌, ◌||◌, not, Bool, true, false, if◌then◌else◌, List, [], ◌∷◌, ◌++◌, length, map, filter, Option, Some, None, is_some, bit_and}
use Rattle.std.specs.List.{list_any, find}
use Rattle.std.specs.Option.{option_map_or}
use Rattle.zr_id.specs.declared.link.LinkNo.{LinkNo}
use Rattle.zr_msg.specs.declared.msg.Msg.{Msg}
use Rattle.zr_msg.specs.declared.msg.Msg.TheVariants.{Sub, Unsub, Token, Untoken, Able, Unable, Interest, EndInterest, ToldSub, ToldAble, ToldUnsub, ToldToken, ToldUntoken, ToldUnable, ToldEnd, Push, Request, Response, Final, State, Step, Snap}
use Rattle.zr_msg.specs.declared.peer.Role.{Role}
use Rattle.zr_msg.specs.declared.peer.Role.TheVariants as role
use Rattle.zr_msg.specs.declared.event.Event.{Event}
use Rattle.zr_msg.specs.declared.event.Event.TheVariants.{Up, Down, From}
use Rattle.zr_node_spec.specs.Tables.{link_at}
use Rattle.zr_told_spec.specs.Hub.{HubState, hub_after, hub_sends, new_hub}
use Rattle.zr_frame.specs.Outbox.{OutboxState}
use Rattle.zr_frame.specs.Packing.{Parcels}
use Rattle.zr_frame_pack.specs.Packing.{parcels_of}
use Rattle.zr_port.specs.declared.entry.Entry.{Entry}

-- ---- the data

-- what was queued for a link since it came up last: who stands at its other end, whether it is still up, the outbox behind all that was
-- queued, the parcels in order, and how many more an event had for it that closed it, if one has
pub record LinkQueue : Type 0 where
  pub link : LinkNo
  pub role : Role
  pub is_up : Bool
  pub outbox : OutboxState
  pub batches : List (List ℕ)
  pub closed : Option ℕ

pub record Tables : Type 0 where
  pub hub : HubState
  pub queues : List LinkQueue

-- a router without links
abbrev pub new_tables : List ℕ → Tables
new_tables me = record { hub = new_hub me; queues = [] }

-- ---- one entry

-- what an event sends on a link, in parcels
abbrev pub batches_for : HubState → Event → OutboxState → LinkNo → Parcels
batches_for hub event outbox link = parcels_of outbox (hub_sends hub event link)

-- a link is among these
abbrev pub is_among : List LinkNo → LinkNo → Bool
is_among links link = list_any (λ l. l.0 == link.0) links

-- the queue with more parcels
abbrev pub with_parcels : LinkQueue → Parcels → LinkQueue
with_parcels q p = record { link = q.link; role = q.role; is_up = q.is_up; outbox = p.outbox; batches = q.batches ++ p.batches; closed = q.closed }

-- the queue once an event has closed its link, with so many parcels that had no room
abbrev pub with_closed : LinkQueue → ℕ → LinkQueue
with_closed q asked = record { link = q.link; role = q.role; is_up = q.is_up; outbox = q.outbox; batches = q.batches; closed = Some asked }

-- what an entry makes of the queue of a link: parcels are queued unless the link is closed, they are left out, or the entry closes it
abbrev pub queued_by : HubState → Entry → LinkQueue → LinkQueue
queued_by hub e q =
    if not q.is_up || is_some q.closed then q
    else if is_among e.closed q.link then with_closed q (length (batches_for hub e.event q.outbox q.link).batches)
    else if is_among e.dropped q.link then q
    else with_parcels q (batches_for hub e.event q.outbox q.link)

-- the queue of a link that has come up
abbrev pub new_queue : LinkNo → Role → OutboxState → LinkQueue
new_queue link role outbox = record { link = link; role = role; is_up = true; outbox = outbox; batches = []; closed = None }

-- the queue of a link that has gone down
abbrev pub with_down : LinkNo → LinkQueue → LinkQueue
with_down link q =
    if q.link.0 == link.0 then record { link = q.link; role = q.role; is_up = false; outbox = q.outbox; batches = q.batches; closed = q.closed } else q

-- the queues of all links but one
abbrev pub other_queues : List LinkQueue → LinkNo → List LinkQueue
other_queues queues link = filter (λ q. not (q.link.0 == link.0)) queues

-- a link that comes up has a new queue in place of the one that it had before, and one that goes down has its queue as it is
abbrev pub queues_up : List LinkQueue → LinkNo → Role → Option OutboxState → List LinkQueue
queues_up queues link role None = queues
queues_up queues link role (Some outbox) = other_queues queues link ++ new_queue link role outbox ∷ []

abbrev pub queues_at : List LinkQueue → Event → Option OutboxState → List LinkQueue
queues_at queues (Up link peer) outbox = queues_up queues link peer.role outbox
queues_at queues (Down link) outbox = map (with_down link) queues
queues_at queues (From link msg) outbox = queues

-- the tables that an entry leaves
abbrev pub advanced : Tables → Entry → Tables
advanced t e = record { hub = hub_after t.hub e.event; queues = map (queued_by t.hub e) (queues_at t.queues e.event e.outbox) }

-- the tables that a list of entries leaves
abbrev pub replay_from : Tables → List Entry → Tables
replay_from t [] = t
replay_from t (e ∷ es) = replay_from (advanced t e) es

abbrev pub replay : List ℕ → List Entry → Tables
replay me h = replay_from (new_tables me) h

-- ---- one link

-- the queue of a link, if it was ever up
abbrev pub queue_of : Tables → LinkNo → Option LinkQueue
queue_of t link = find (λ q. q.link.0 == link.0) t.queues

-- the parcels that a list of entries has queued for a link since it came up last
abbrev pub queued : List ℕ → List Entry → LinkNo → List (List ℕ)
queued me h link = option_map_or (λ q. q.batches) (queue_of (replay me h) link) []

-- the link is up
abbrev pub is_up : List ℕ → List Entry → LinkNo → Bool
is_up me h link = is_some (link_at (replay me h).hub.node.links link.0)

-- ---- limits

-- how many parcels wait for a peer at most
abbrev pub slots_of : Role → ℕ
slots_of role.Client = 256
slots_of role.Router = 1024

-- a sample that may be dropped: its quality of service doesn't ask not to (Zenoh protocol 1.0, "QoS")
abbrev pub may_drop : Msg → Bool
may_drop (Push tree content) = option_map_or (λ qos. bit_and qos 0x08 == 0) content.extras.qos true
may_drop (Sub id key) = false
may_drop (Unsub id) = false
may_drop (Token id key) = false
may_drop (Untoken id) = false
may_drop (Able id key complete) = false
may_drop (Unable id) = false
may_drop (Interest id current future kinds key aggregate) = false
may_drop (EndInterest id) = false
may_drop (ToldSub id key interest) = false
may_drop (ToldToken id key interest) = false
may_drop (ToldAble id key complete interest) = false
may_drop (ToldUnsub id) = false
may_drop (ToldUntoken id) = false
may_drop (ToldUnable id) = false
may_drop (ToldEnd interest) = false
may_drop (Request tree id target content) = false
may_drop (Response id content) = false
may_drop (Final id extras) = false
may_drop (State links) = false
may_drop (Step source number added decl) = false
may_drop (Snap source number decls) = false

-- one sample, which may be dropped
abbrev pub is_droppable : List Msg → Bool
is_droppable [] = false
is_droppable (m ∷ []) = may_drop m
is_droppable (m ∷ n ∷ more) = false

-- anything but one sample that may be dropped
abbrev pub is_other : List Msg → Bool
is_other [] = false
is_other (m ∷ []) = not (may_drop m)
is_other (m ∷ n ∷ more) = true

-- the queues of the links that are up
abbrev pub open_queues : Tables → List LinkQueue
open_queues t = filter (λ q. q.is_up) t.queues
