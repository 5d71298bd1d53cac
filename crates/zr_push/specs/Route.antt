-- The links over which a sample or a request goes on in a tree.
use Rattle.std.specs.Prelude.{ℕ, ◌==◌, not, Bool, true, List, filter, map}
use Rattle.zr_graph.specs.Record.{has}
use Rattle.zr_id.specs.declared.link.LinkNo.{LinkNo}
use Rattle.zr_msg.specs.declared.content.Parts.{Parts}
use Rattle.zr_msg.specs.declared.msg.Msg.{Msg}
use Rattle.zr_msg.specs.declared.msg.Msg.TheVariants.{Push}
use Rattle.zr_msg.specs.declared.peer.LinkPeer.{LinkPeer}
use Rattle.zr_msg.specs.declared.peer.Role.{Role}
use Rattle.zr_msg.specs.declared.peer.Role.TheVariants.{Client, Router}
use Rattle.zr_push.specs.declared.route.RouteLink.{RouteLink}
use Rattle.zr_push_sought.specs.declared.sought.Sought.{Sought}
use Rattle.zr_push_sought.specs.Sought.{has_declared, leads_to}
use Rattle.zr_node_spec.specs.Queries.{tree_for}
use Rattle.zr_node_spec.specs.Tables.{TableState}

-- a link is on the route: it leads to a router on the way to one whose clients have declared what is sought, or to a client that has
abbrev pub is_on_route : TableState → List ℕ → Sought → List ℕ → LinkPeer → Role → Bool
is_on_route t tree sought key l Client = has_declared t.rows l.link.0 sought key
is_on_route t tree sought key l Router = leads_to t tree sought key l.peer.id

-- the same, where these neighbours are those on the way
abbrev pub is_stop : TableState → List (List ℕ) → Sought → List ℕ → LinkPeer → Role → Bool
is_stop t hops sought key l Client = has_declared t.rows l.link.0 sought key
is_stop t hops sought key l Router = has hops l.peer.id

-- the stop at a link
abbrev pub stop_at : LinkPeer → RouteLink
stop_at l = record { link = l.link; role = l.peer.role }

-- all stops, in the order of the links
abbrev pub route_of : TableState → List ℕ → Sought → List ℕ → List RouteLink
route_of t tree sought key = map (λ l. stop_at l) (filter (λ l. is_on_route t tree sought key l l.peer.role) t.links)

-- what came over a link goes on to a stop, but for the client that it came from
abbrev pub goes_on : ℕ → RouteLink → Role → Bool
goes_on from s Client = not (s.link.0 == from)
goes_on from s Router = true

abbrev pub stops_from : List RouteLink → ℕ → List RouteLink
stops_from stops from = filter (λ s. goes_on from s s.role) stops

-- a sample for a stop: the tree is named to routers alone
abbrev pub push_for : List ℕ → Parts → RouteLink → LinkNo × Msg
push_for tree content s = (s.link, Push (tree_for tree s.role) content)

-- a sample along a route
abbrev pub sent_along : List RouteLink → ℕ → List ℕ → Parts → List (LinkNo × Msg)
sent_along stops from tree content = map (λ s. push_for tree content s) (stops_from stops from)
