-- What a router does depends neither on the identifiers of its clients nor on what their links weigh.
use Rattle.std.specs.Prelude.{◌≡◌, ℕ, List, [], map}
use Rattle.zr_id.specs.declared.link.LinkNo.{LinkNo}
use Rattle.zr_msg.specs.declared.event.Event.{Event}
use Rattle.zr_msg.specs.declared.event.Event.TheVariants.{Up, Down, From}
use Rattle.zr_msg.specs.declared.peer.LinkPeer.{LinkPeer}
use Rattle.zr_msg.specs.declared.peer.Role.{Role}
use Rattle.zr_msg.specs.declared.peer.Role.TheVariants.{Client, Router}
use Rattle.zr_msg.specs.Peer.{PeerState}
use Rattle.zr_node_spec.specs.State.{NodeState}
use Rattle.zr_told_spec.specs.Hub.{HubState, hub_sends, hub_after, hub_refuses}

-- the identifier of a router, and none for a client
abbrev pub name_of : List ℕ → Role → List ℕ
name_of id Client = []
name_of id Router = id

-- what the link to a router weighs, and 1 for a client
abbrev pub weight_of : ℕ → Role → ℕ
weight_of weight Client = 1
weight_of weight Router = weight

-- a router as it is, and a client as any other one
abbrev pub nameless : PeerState → PeerState
nameless peer = record { id = name_of peer.id peer.role; role = peer.role; weight = weight_of peer.weight peer.role }

abbrev pub nameless_link : LinkPeer → LinkPeer
nameless_link l = record { link = l.link; peer = nameless l.peer }

-- an event, and a router's tables, without the names of clients
abbrev pub nameless_event : Event → Event
nameless_event (Up link peer) = Up link (nameless peer)
nameless_event (Down link) = Down link
nameless_event (From link msg) = From link msg

abbrev pub nameless_node : NodeState → NodeState
nameless_node node =
    record {
      links = map nameless_link node.links;
      base = node.base;
      rows = node.rows;
      clients = node.clients;
      known = node.known;
      pending = node.pending;
      held = node.held;
      spent = node.spent;
    }

abbrev pub nameless_hub : HubState → HubState
nameless_hub h = record { node = nameless_node h.node; told = h.told }

-- without them the event does what it does with them
pub record IsSameWithoutNames (h : HubState) (event : Event) : Type 0 where
  pub after : hub_after (nameless_hub h) (nameless_event event) ≡ nameless_hub (hub_after h event)
  pub sends : (link : LinkNo) → hub_sends (nameless_hub h) (nameless_event event) link ≡ hub_sends h event link
  pub refuses : hub_refuses (nameless_hub h) (nameless_event event) ≡ hub_refuses h event

abbrev pub NamesChangeNothing : Type 0
NamesChangeNothing = (h : HubState) (event : Event) → IsSameWithoutNames h event
