-- What a router goes by: its links, the records, what its own clients have declared and want to be told of, and what it knows of the change
-- logs of all routers.
use Rattle.std.specs.Prelude.{◌≡◌, ℕ, ◌+◌, ◌==◌, ◌&&◌, not, Bool, true, false, List, length, map, Option, unwrap_or}
use Rattle.std.specs.List.{find, list_any, range_with_len}
use Rattle.std.specs.List.Sorted.{IsStrictlySortedBy}
use Rattle.std.specs.Option.{option_map_or}
use Rattle.std.specs.Ordering.{nat_cmp}
use Rattle.zr_id.specs.Zid.{is_named}
use Rattle.zr_graph.specs.Base.{BaseState}
use Rattle.zr_tree.specs.Walk.{Graph, graph_of}
use Rattle.zr_tree.specs.Tree.{is_child}
use Rattle.zr_msg.specs.declared.peer.LinkPeer.{LinkPeer}
use Rattle.zr_msg.specs.declared.peer.Role.{Role}
use Rattle.zr_msg.specs.declared.peer.Role.TheVariants.{Client, Router}
use Rattle.zr_local.specs.declared.interest.ClientInterests.{ClientInterests}
use Rattle.zr_local.specs.declared.row.Row.{Row}
use Rattle.zr_log.specs.Known.{KnownState}

-- the tables of a router: its links in ascending order of their numbers, the newest record of each router, what the clients of the links have
-- declared, their live interests, and of each router's log how much is known
pub record TableState : Type 0 where
  pub links : List LinkPeer
  pub base : BaseState
  pub rows : List Row
  pub clients : List ClientInterests
  pub known : KnownState

-- two states of a router have the same links and records, and so the same children in each tree
pub record HaveSameTrees (t u : TableState) : Type 0 where
  pub links : t.links ≡ u.links
  pub base : t.base ≡ u.base

-- ---- links

-- the numbers of links ascend: each link has one of its own
abbrev pub AreNumbered : List LinkPeer → Type 0
AreNumbered links = IsStrictlySortedBy nat_cmp (map (λ l. l.link.0) links)

-- a peer that is a router
abbrev pub is_router : Role → Bool
is_router Client = false
is_router Router = true

-- a link has this number
abbrev pub is_link : ℕ → LinkPeer → Bool
is_link number l = l.link.0 == number

-- the link of a number, if it is up
abbrev pub link_at : List LinkPeer → ℕ → Option LinkPeer
link_at links number = find (λ l. is_link number l) links

-- the link to a neighbour, if it is up
abbrev pub link_to : List LinkPeer → List ℕ → Option LinkPeer
link_to links name = find (λ l. is_named l.peer.id name) links

-- whether the link of this number is up and leads to a router
abbrev pub leads_to_router : List LinkPeer → ℕ → Bool
leads_to_router links number = option_map_or (λ l. is_router l.peer.role) (link_at links number) false

-- whether the link of this number is up and leads to a client
abbrev pub leads_to_client : List LinkPeer → ℕ → Bool
leads_to_client links number = option_map_or (λ l. not (is_router l.peer.role)) (link_at links number) false

-- the least number that no link has
abbrev pub free_link : List LinkPeer → ℕ
free_link links = unwrap_or (find (λ n. not (list_any (λ l. is_link n l) links)) (range_with_len 0 (length links + 1))) 0

-- ---- trees

-- the routers and their edges, as this router's records have them
abbrev pub graph : TableState → Graph
graph t = graph_of t.base.records

-- a router is a child of this one in the tree of a root
abbrev pub is_own_child : TableState → List ℕ → List ℕ → Bool
is_own_child t root name = is_child (graph t) root t.base.me name

-- a link leads to a router that is a child of this one in the tree of a root
abbrev pub leads_to_child : TableState → List ℕ → LinkPeer → Bool
leads_to_child t root l = is_router l.peer.role && is_own_child t root l.peer.id

-- the same for the link of a number, if it is up
abbrev pub is_to_child : TableState → List ℕ → ℕ → Bool
is_to_child t root to = option_map_or (λ l. leads_to_child t root l) (link_at t.links to) false
