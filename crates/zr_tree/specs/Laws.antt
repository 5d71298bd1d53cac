-- What follows of walks and trees, for the proofs above.
use Rattle.std.specs.Prelude.{◌≡◌, ℕ, ◌+◌, ◌⊎◌, ◌||◌, zero, suc, true, false, List, Option, Some, is_some}
use Rattle.std.specs.Option.{option_map_or, option_and_then}
use Rattle.zr_id.specs.Record.{RecordState, is_before}
use Rattle.zr_id.specs.Zid.{is_named}
use Rattle.zr_graph.specs.Record.{ids, has, IsAscending}
use Rattle.zr_tree_parents.specs.Distance.{is_sum}
use Rattle.zr_tree.specs.Tree.{dist, tree_depth, reached, parent, is_child, children, below, toward}
use Rattle.zr_tree.specs.Walk.{Graph, graph_of, edge_length, IsWalk, walk_length, IsDistance}

-- routers in ascending order, and edges between them that have no direction, nor have their lengths
pub record IsGraph (g : Graph) : Type 0 where
  pub ascending : IsAscending g.names
  pub known : (x y : List ℕ) → g.joined x y ≡ true → has g.names x ≡ true
  pub both_ways : (x y : List ℕ) → g.joined x y ≡ true → g.joined y x ≡ true
  pub as_long : (x y : List ℕ) → edge_length g x y ≡ edge_length g y x

-- records in order make a graph
abbrev pub RecordsMakeGraphs : Type 0
RecordsMakeGraphs = (records : List RecordState) → IsAscending (ids records) → IsGraph (graph_of records)

-- a walk leads back as well, and is as long
abbrev pub WalksLeadBack : Type 0
WalksLeadBack = (g : Graph) → IsGraph g → (x z : List ℕ) (path : List (List ℕ)) → IsWalk g x path z →
    (back : List (List ℕ)) × IsWalk g z back x × (walk_length g z back ≡ walk_length g x path)

-- the distance is the length of a shortest walk, and there is none where no walk leads
pub record IsExact (g : Graph) (root x : List ℕ) (n : ℕ) : Type 0 where
  pub is_shortest : dist g root x ≡ Some n → IsDistance g root x n
  pub is_found : IsDistance g root x n → dist g root x ≡ Some n

abbrev pub DistancesAreOfShortestWalks : Type 0
DistancesAreOfShortestWalks = (g : Graph) → IsGraph g → (root x : List ℕ) (n : ℕ) → IsExact g root x n

abbrev pub WalksReach : Type 0
WalksReach = (g : Graph) → IsGraph g → (root x : List ℕ) (path : List (List ℕ)) → IsWalk g root path x → reached g root x ≡ true

-- a parent is nearer to the root by the edge to it
abbrev pub ParentsAreNearer : Type 0
ParentsAreNearer = (g : Graph) (root x p : List ℕ) → parent g root x ≡ Some p →
    (n : ℕ) × (dist g root p ≡ Some n) × (dist g root x ≡ Some (n + edge_length g p x))

-- every router that is reached has a parent, but for the root
abbrev pub ReachedHaveParents : Type 0
ReachedHaveParents = (g : Graph) (root x : List ℕ) → reached g root x ≡ true → is_named root x ≡ false → is_some (parent g root x) ≡ true

-- of the neighbours that are nearer by the edge to it the parent is the least
abbrev pub ParentsAreLeast : Type 0
ParentsAreLeast = (g : Graph) → IsGraph g → (root x p y : List ℕ) → parent g root x ≡ Some p → g.joined x y ≡ true →
    is_sum (dist g root y) (edge_length g y x) (dist g root x) ≡ true → (p ≡ y) ⊎ (is_before p y ≡ true)

-- and each edge of a tree goes one deeper
abbrev pub ParentsAreLessDeep : Type 0
ParentsAreLessDeep = (g : Graph) (root x p : List ℕ) → parent g root x ≡ Some p → (n : ℕ) × (tree_depth g root p ≡ Some n) × (tree_depth g root x ≡ Some (n + 1))

-- a router is below itself and what its parent is below
abbrev pub BelowGoesByParents : Type 0
BelowGoesByParents = (g : Graph) (root y x : List ℕ) → below g root y x ≡ (is_named x y || option_map_or (λ p. below g root y p) (parent g root x) false)

-- a destination is below one child of each router that it is below, and that is the next one toward it
pub record IsNext (g : Graph) (root at dest y : List ℕ) : Type 0 where
  pub next : toward g root at dest ≡ Some y
  pub is_child_of : is_child g root at y ≡ true
  pub is_above : below g root y dest ≡ true
  pub only : (z : List ℕ) → is_child g root at z ≡ true → below g root z dest ≡ true → z ≡ y

abbrev pub DestinationsAreBelowOneChild : Type 0
DestinationsAreBelowOneChild = (g : Graph) → IsGraph g → (root at dest : List ℕ) → reached g root dest ≡ true → below g root at dest ≡ true → is_named dest at ≡ false →
    (y : List ℕ) × IsNext g root at dest y

-- n steps toward a destination
abbrev pub steps_toward : Graph → List ℕ → ℕ → List ℕ → List ℕ → Option (List ℕ)
steps_toward g root zero at dest = Some at
steps_toward g root (suc n) at dest = option_and_then (λ y. steps_toward g root n y dest) (toward g root at dest)

-- they lead from the root to it
abbrev pub StepsLeadToDestinations : Type 0
StepsLeadToDestinations = (g : Graph) → IsGraph g → (root dest : List ℕ) (n : ℕ) → tree_depth g root dest ≡ Some n → steps_toward g root n root dest ≡ Some dest

-- trees are those of the edges and their lengths alone, whatever routers without an edge there are
pub record HaveSameTrees (g h : Graph) : Type 0 where
  pub distances : (root x : List ℕ) → dist g root x ≡ dist h root x
  pub depths : (root x : List ℕ) → tree_depth g root x ≡ tree_depth h root x
  pub parents : (root x : List ℕ) → parent g root x ≡ parent h root x
  pub children_are : (root x : List ℕ) → children g root x ≡ children h root x
  pub next : (root x dest : List ℕ) → toward g root x dest ≡ toward h root x dest

abbrev pub TreesAreOfEdges : Type 0
TreesAreOfEdges = (g h : Graph) → IsGraph g → IsGraph h → ((x y : List ℕ) → g.joined x y ≡ h.joined x y) →
    ((x y : List ℕ) → g.joined x y ≡ true → edge_length g x y ≡ edge_length h x y) → HaveSameTrees g h
