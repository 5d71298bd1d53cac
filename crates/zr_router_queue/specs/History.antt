-- Which lists of entries a router's history can be.
use Rattle.std.specs.Prelude.{ℕ, ◌+◌, ◌&&◌, nat_lt, not, Bool, true, false, List, [], ◌∷◌, length, is_some, is_none}
use Rattle.std.specs.List.{list_all}
use Rattle.std.specs.Option.{option_map_or}
use Rattle.zr_id.specs.Zid.{is_named}
use Rattle.zr_id.specs.declared.link.LinkNo.{LinkNo}
use Rattle.zr_msg.specs.Peer.{PeerState}
use Rattle.zr_msg.specs.declared.event.Event.{Event}
use Rattle.zr_msg.specs.declared.event.Event.TheVariants.{Up, Down, From}
use Rattle.zr_node_spec.specs.Tables.{link_at, link_to}
use Rattle.zr_node_spec.specs.State.{NodeState}
use Rattle.zr_told_spec.specs.Hub.{HubState, hub_refuses, hub_sends}
use Rattle.zr_port.specs.declared.entry.Entry.{Entry}
use Rattle.zr_router_queue.specs.Tables.{LinkQueue, Tables, new_tables, batches_for, queues_at, advanced, slots_of, is_droppable, is_other}
use Rattle.std.specs.List.{find}
use Rattle.std.specs.Prelude.{◌==◌}

-- whether a link may come up: none has its number, none leads to its peer, and the peer is another than the router
abbrev pub is_fresh : NodeState → LinkNo → PeerState → Bool
is_fresh node link peer = is_none (link_at node.links link.0) && (is_none (link_to node.links peer.id) && not (is_named peer.id node.base.me))

-- whether an event may come
abbrev pub may_come : NodeState → Event → Bool
may_come node (Up link peer) = is_fresh node link peer
may_come node (Down link) = is_some (link_at node.links link.0)
may_come node (From link msg) = is_some (link_at node.links link.0)

-- an entry has an outbox exactly where its event is an Up, and a reason only where it is a Down
abbrev pub has_parts : Event → Bool → Bool → Bool
has_parts (Up link peer) outbox reason = outbox && not reason
has_parts (Down link) outbox reason = not outbox
has_parts (From link msg) outbox reason = not outbox && not reason

-- more parcels were queued for a link since it came up, with those of this event, than its ring has slots
abbrev pub is_over : HubState → Event → LinkQueue → Bool
is_over hub event q = nat_lt (slots_of q.role) (length q.batches + length (batches_for hub event q.outbox q.link).batches)

-- a link that is up and wasn't closed before, whose ring may be too full for what the event sends it
abbrev pub may_lack : HubState → Event → LinkQueue → Bool
may_lack hub event q = q.is_up && (is_none q.closed && is_over hub event q)

-- a test of a link's queue, which there is
abbrev pub queue_passes : List LinkQueue → (LinkQueue → Bool) → LinkNo → Bool
queue_passes queues test link = option_map_or test (find (λ q. q.link.0 == link.0) queues) false

-- only one sample that may be dropped is left out, and only anything else closes a link
abbrev pub may_be_dropped : Tables → Entry → LinkNo → Bool
may_be_dropped t e link =
    is_droppable (hub_sends t.hub e.event link) && queue_passes (queues_at t.queues e.event e.outbox) (may_lack t.hub e.event) link

abbrev pub may_be_closed : Tables → Entry → LinkNo → Bool
may_be_closed t e link =
    is_other (hub_sends t.hub e.event link) && queue_passes (queues_at t.queues e.event e.outbox) (may_lack t.hub e.event) link

-- whether an entry may follow on these tables
abbrev pub may_follow : Tables → Entry → Bool
may_follow t e =
    may_come t.hub.node e.event && (is_none (hub_refuses t.hub e.event) && (has_parts e.event (is_some e.outbox) (is_some e.reason)
    && (list_all (may_be_dropped t e) e.dropped && list_all (may_be_closed t e) e.closed)))

abbrev pub is_legal_from : Tables → List Entry → Bool
is_legal_from t [] = true
is_legal_from t (e ∷ es) = may_follow t e && is_legal_from (advanced t e) es

-- each entry may follow on those before it
abbrev pub is_legal : List ℕ → List Entry → Bool
is_legal me h = is_legal_from (new_tables me) h

-- the event brings a link up
abbrev pub brings_up : LinkNo → Event → Bool
brings_up link (Up l peer) = l.0 == link.0
brings_up link (Down l) = false
brings_up link (From l msg) = false

-- the entry brings a link up anew, so that its queue begins again
abbrev pub renews : LinkNo → Entry → Bool
renews link e = brings_up link e.event
