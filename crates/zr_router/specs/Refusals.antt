-- Which calls of a router are refused after a list of entries, and why.
use Rattle.std.specs.Prelude.{◌≡◌, ℕ, ◌<◌, ◌==◌, ◌||◌, ◌&&◌, not, nat_le, Bool, true, false, if◌then◌else◌, List, length, filter, Option, Some, None, is_some}
use Rattle.std.specs.Option.{option_and_then}
use Rattle.zr_id.specs.Zid.{is_named}
use Rattle.zr_id.specs.declared.link.LinkNo.{LinkNo}
use Rattle.zr_hist.specs.Words.{most_entries}
use Rattle.zr_access.specs.Rules.{PolicyState, is_open}
use Rattle.zr_access.specs.Messages.{peer_denial}
use Rattle.zr_msg.specs.declared.error.NodeError.{NodeError}
use Rattle.zr_msg.specs.declared.error.NodeError.TheVariants as error
use Rattle.zr_msg.specs.declared.msg.Msg.{Msg}
use Rattle.zr_msg.specs.Peer.{PeerState}
use Rattle.zr_msg.specs.declared.event.Event.{Event}
use Rattle.zr_msg.specs.declared.event.Event.TheVariants.{Up, Down, From}
use Rattle.zr_node_spec.specs.Tables.{link_at, link_to, is_router, free_link}
use Rattle.zr_node_spec.specs.State.{NodeState}
use Rattle.zr_msg.specs.declared.peer.LinkPeer.{LinkPeer}
use Rattle.zr_told_spec.specs.Hub.{HubState, hub_refuses}
use Rattle.zr_port.specs.declared.entry.Entry.{Entry}
use Rattle.zr_port.specs.declared.error.UpError.{UpError}
use Rattle.zr_port.specs.declared.error.UpError.TheVariants as up
use Rattle.zr_port.specs.declared.error.DeliverError.{DeliverError}
use Rattle.zr_port.specs.declared.error.DeliverError.TheVariants as deliver
use Rattle.zr_port.specs.declared.error.DownError.{DownError}
use Rattle.zr_port.specs.declared.error.DownError.TheVariants as down
use Rattle.zr_wire.specs.Roles.{admits}
use Rattle.std.specs.List.{find}
use Rattle.zr_router_queue.specs.Tables.{LinkQueue, Tables, replay, open_queues}

-- ---- limits

-- how many sessions a router has at most, and how many of them to routers
abbrev pub most_sessions : ℕ
most_sessions = 128

abbrev pub most_routers : ℕ
most_routers = 16

abbrev pub sessions : NodeState → ℕ
sessions node = length node.links

abbrev pub routers : NodeState → ℕ
routers node = length (filter (λ l. is_router l.peer.role) node.links)

-- ---- a link that is to come up

-- there is no room for one more session with such a peer
abbrev pub is_full : NodeState → PeerState → Bool
is_full node peer = nat_le most_sessions (sessions node) || (is_router peer.role && nat_le most_routers (routers node))

-- a link of that identifier is up, or it is the router's own
abbrev pub is_twice : NodeState → PeerState → Bool
is_twice node peer = is_some (link_to node.links peer.id) || is_named peer.id node.base.me

-- the event that the call is
abbrev pub up_event : NodeState → PeerState → Event
up_event node peer = Up (record { 0 = free_link node.links }) peer

-- the history has room for one more entry, or has not
abbrev pub is_worn : List Entry → Bool
is_worn h = length h == most_entries

-- the refusal of a peer, if it is refused; `worn` says that a number that its Up needs has no room left
abbrev pub peer_refusal : NodeState → PeerState → Bool → Option UpError
peer_refusal node peer worn =
    if is_full node peer then Some (up.Full (sessions node) (routers node))
    else if is_twice node peer then Some up.Twice
    else if worn then Some up.Worn
    else None

abbrev pub refuses_peer : HubState → List Entry → PeerState → Option UpError
refuses_peer hub h peer = peer_refusal hub.node peer (is_worn h || is_some (hub_refuses hub (up_event hub.node peer)))

abbrev pub RefusesUp : List ℕ → List Entry → PeerState → UpError → Type 0
RefusesUp me h peer e = refuses_peer (replay me h).hub h peer ≡ Some e

-- ---- a message

-- what a refusal by the router is told as: where there are rules, what isn't declared may have been denied, and is ignored
abbrev pub node_refusal : Bool → NodeError → DeliverError
node_refusal true (error.NotDeclared id) = deliver.Ignored id
node_refusal true (error.Gap router has came) = deliver.Node (error.Gap router has came)
node_refusal true (error.TextLimit held more) = deliver.Node (error.TextLimit held more)
node_refusal true (error.NumberTaken id) = deliver.Node (error.NumberTaken id)
node_refusal true (error.TooMany pending) = deliver.Node (error.TooMany pending)
node_refusal true error.Worn = deliver.Node error.Worn
node_refusal true error.Spent = deliver.Node error.Spent
node_refusal true error.NoMemory = deliver.Node error.NoMemory
node_refusal false e = deliver.Node e

-- the refusal of a message for want of a place in the history, or by the router itself
abbrev pub refused_by : Bool → Bool → Option NodeError → Option DeliverError
refused_by ruled true refusal = Some deliver.Worn
refused_by ruled false (Some e) = Some (node_refusal ruled e)
refused_by ruled false None = None

-- the refusal by a rule, or else another one
abbrev pub denied_or : Option ℕ → Option DeliverError → Option DeliverError
denied_or (Some rule) other = Some (deliver.Denied rule)
denied_or None other = other

-- the refusal of a message over a link that is up and was not closed: a peer of that role may not send it, a rule denies it, or the tables refuse it
abbrev pub refuses_on : PolicyState → HubState → List Entry → LinkNo → PeerState → Msg → Option DeliverError
refuses_on policy hub h link peer msg =
    if not (admits peer.role msg) then Some (deliver.Misplaced peer.role)
    else denied_or (peer_denial policy peer msg) (refused_by (not (is_open policy)) (is_worn h) (hub_refuses hub (From link msg)))

-- an earlier event closed the link, which had so many parcels for it and had fewer free slots
abbrev pub IsClosed : Option ℕ → DeliverError → Type 0
IsClosed None (deliver.Full asked free) = ⊥
IsClosed (Some n) (deliver.Full asked free) = (asked ≡ n) × (free < asked)
IsClosed closed (deliver.NotUp link) = ⊥
IsClosed closed (deliver.Misplaced role) = ⊥
IsClosed closed (deliver.Denied rule) = ⊥
IsClosed closed (deliver.Ignored id) = ⊥
IsClosed closed (deliver.Node e) = ⊥
IsClosed closed deliver.Worn = ⊥
IsClosed closed deliver.NoMemory = ⊥

-- how many parcels the event had that closed the link, if one has since it came up
abbrev pub closing_of : Tables → LinkNo → Option ℕ
closing_of t link = option_and_then (λ (q : LinkQueue). q.closed) (find (λ q. q.link.0 == link.0) (open_queues t))

-- what an open or a closed link to a peer refuses
abbrev pub RefusesOn : PolicyState → Tables → List Entry → LinkNo → PeerState → Msg → Option ℕ → DeliverError → Type 0
RefusesOn policy t h link peer msg (Some n) e = IsClosed (Some n) e
RefusesOn policy t h link peer msg None e = refuses_on policy t.hub h link peer msg ≡ Some e

-- the link isn't up, or it refuses the message
abbrev pub RefusesAt : PolicyState → Tables → List Entry → LinkNo → Msg → Option LinkPeer → DeliverError → Type 0
RefusesAt policy t h link msg None e = e ≡ deliver.NotUp link
RefusesAt policy t h link msg (Some l) e = RefusesOn policy t h link l.peer msg (closing_of t link) e

abbrev pub RefusesMessage : PolicyState → List ℕ → List Entry → LinkNo → Msg → DeliverError → Type 0
RefusesMessage policy me h link msg e = RefusesAt policy (replay me h) h link msg (link_at (replay me h).hub.node.links link.0) e

-- ---- a link that is to go down

-- the refusal of a Down; `worn` says that a number that it needs has no room left
abbrev pub down_refusal : NodeState → LinkNo → Bool → Option DownError
down_refusal node link worn =
    if not (is_some (link_at node.links link.0)) then Some (down.NotUp link)
    else if worn then Some down.Worn
    else None

abbrev pub refuses_down : HubState → List Entry → LinkNo → Option DownError
refuses_down hub h link = down_refusal hub.node link (is_worn h || is_some (hub_refuses hub (Down link)))

abbrev pub RefusesDown : List ℕ → List Entry → LinkNo → DownError → Type 0
RefusesDown me h link e = refuses_down (replay me h).hub h link ≡ Some e
