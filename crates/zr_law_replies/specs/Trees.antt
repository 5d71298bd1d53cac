-- The tree of a query: along which links its requests go, by the tables of a world. Its nodes are names. The root is the client that asks, and its child
-- is its router; the children of a router are the neighbours to which it passes on a request that comes from its own parent; and clients that are
-- asked have none.
use Rattle.std.specs.Prelude.{◌≡◌, ℕ, ◌-◌, ◌&&◌, ◌||◌, suc, Bool, true, false, if◌then◌else◌, List, [], ◌∷◌, length, filter_map, Option, Some, None, is_some, unwrap_or}
use Rattle.std.specs.Option.{option_map, option_map_or}
use Rattle.zr_id.specs.Zid.{is_named}
use Rattle.zr_id.specs.declared.link.LinkNo.{LinkNo}
use Rattle.zr_tree.specs.Tree.{tree_depth, parent}
use Rattle.zr_msg.specs.declared.msg.Target.{Target}
use Rattle.zr_msg.specs.declared.peer.LinkPeer.{LinkPeer}
use Rattle.zr_node_spec.specs.Tables.{link_at, link_to}
use Rattle.zr_node_spec.specs.Queries.{asked_links}
use Rattle.zr_node_spec.specs.State.{tables}
use Rattle.zr_world_spec.specs.World.{RouterState, WorldState, router_of, client_of}
use Rattle.zr_world_spec.specs.Joined.{graph}
use Rattle.zr_world_spec.specs.Moments.{Numbered}
use Rattle.zr_guarantee.specs.Latest.{asks_latest}
use Rattle.zr_guarantee.specs.Queries.{Asked, asks}
use Rattle.zr_law_queries.specs.Query.{Tree, IsTree, is_child}
use Rattle.zr_law_queries.specs.Courses.{Chain}

abbrev pub has_router : WorldState → List ℕ → Bool
has_router w x = is_some (router_of w.routers x)

-- the router of a client
abbrev pub home_of : WorldState → List ℕ → List ℕ
home_of w client = option_map_or (λ s. s.router) (client_of w.clients client) []

module _ (w : WorldState) (client : List ℕ) where
  -- who asks each node: the client asks itself and its router, another router is asked by its parent in the tree of that router, and a client by its own
  abbrev pub parent_of : List ℕ → List ℕ
  parent_of x =
      if is_named client x then client
      else if is_named (home_of w client) x then client
      else if has_router w x then unwrap_or (parent (graph w) (home_of w client) x) x
      else home_of w x

  -- the tree that a request names which comes to a node: none where it comes from the client, and otherwise that of the client's router
  abbrev pub named_at : List ℕ → Option (List ℕ)
  named_at x = if is_named (home_of w client) x then None else Some (home_of w client)

  -- routers pass on what comes from below, and so does the client that asks
  abbrev pub passes_at : List ℕ → Bool
  passes_at x = is_named client x || has_router w x

  -- how many links it is at most from a node to the clients that are asked
  abbrev pub height_at : List ℕ → ℕ
  height_at x =
      if is_named client x then suc (suc (length (graph w).names))
      else if has_router w x then option_map_or (λ n. suc (length (graph w).names) - n) (tree_depth (graph w) (home_of w client) x) 0
      else 0

-- the neighbours of some links
abbrev pub neighbours_of : List LinkPeer → List LinkNo → List (List ℕ)
neighbours_of links numbers = filter_map (λ n. option_map (λ l. l.peer.id) (link_at links n.0)) numbers

-- the links over which a router passes on a request that comes from a neighbour, naming a tree or none
abbrev pub links_from : RouterState → List ℕ → Option (List ℕ) → Target → List ℕ → List LinkNo
links_from r source named target key = option_map_or (λ l. asked_links (tables r.node) l.link.0 named target key) (link_to r.node.links source) []

-- to whom a node passes a query on
abbrev pub children_at : WorldState → Asked → List ℕ → List (List ℕ)
children_at w q x =
    if is_named q.client x then home_of w q.client ∷ []
    else option_map_or (λ r. neighbours_of r.node.links (links_from r (parent_of w q.client x) (named_at w q.client x) q.target q.content.key)) (router_of w.routers x) []

-- the tree of a query; where it asks for the latest, the router of its client gathers
abbrev pub tree_at : WorldState → Asked → Tree (List ℕ)
tree_at w q = record {
  same = is_named;
  root = q.client;
  children = children_at w q;
  parent = parent_of w q.client;
  passes = passes_at w q.client;
  height = height_at w q.client;
  gathers = λ x. asks_latest q && is_named (home_of w q.client) x;
}

-- it is a tree, and the clients at its ends are those that the query asks, by the acts that led to the world
pub record IsTreeOf (before : List Numbered) (w : WorldState) (q : Asked) : Type 0 where
  pub is_tree : IsTree (tree_at w q)
  pub asked : (x d : List ℕ) → is_child (tree_at w q) x d ≡ true → passes_at w q.client d ≡ false → asks before q d ≡ true
  pub passes : (d : List ℕ) → asks before q d ≡ true → passes_at w q.client d ≡ false
  pub way : (d : List ℕ) → asks before q d ≡ true → (ys : List (List ℕ)) × Chain (tree_at w q) q.client ys d
