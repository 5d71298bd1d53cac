-- What is kept of each router in the tree of a root.
use Rattle.std.specs.Prelude.{◌≡◌, ℕ, ◌<◌, ◌==◌, true, List, [], Option, Some, None, length, slice_get, slice_index_or, if◌then◌else◌}
use Rattle.zr_id.specs.Record.{RecordState}
use Rattle.zr_graph.specs.Record.{ids, IsAscending}
use Rattle.zr_tree_parents.specs.Climb.{at}
use Rattle.zr_tree_parents.specs.Distance.{kept_at}
use Rattle.zr_tree.specs.declared.tree.Hop.{Hop}
use Rattle.zr_tree.specs.declared.tree.TheConstants.{UNREACHED}
use Rattle.zr_tree.specs.Index.{name}
use Rattle.zr_tree.specs.Tree.{tree_depth, parent, below, children}
use Rattle.zr_tree.specs.Walk.{graph_of}

-- the depth that a number stands for
abbrev pub depth_of : ℕ → Option ℕ
depth_of depth = if depth == UNREACHED then None else Some depth

-- the index that stands for a router's parent; the router's own stands for none
abbrev pub parent_name : List RecordState → ℕ → ℕ → Option (List ℕ)
parent_name records x index = if index == x then None else Some (name records index)

-- by index, what is known of the tree of a root: the depths, the parents and the jumps
pub record AreWays (records : List RecordState) (root : ℕ) (depths : List (Option ℕ)) (parents jumps : List ℕ) : Type 0 where
  pub depths_long : length depths ≡ length records
  pub parents_long : length parents ≡ length records
  pub jumps_long : length jumps ≡ length records
  pub depth : (x : ℕ) → x < length records → kept_at depths x ≡ tree_depth (graph_of records) (name records root) (name records x)
  pub parent_within : (x : ℕ) → x < length records → at parents x < length records
  pub parent_is : (x : ℕ) → x < length records → parent (graph_of records) (name records root) (name records x) ≡ parent_name records x (at parents x)
  pub jump_within : (x : ℕ) → x < length records → at jumps x < length records
  pub jump_above : (x : ℕ) → x < length records →
      below (graph_of records) (name records root) (name records (at jumps x)) (name records (at parents x)) ≡ true

-- what is kept of router x in the tree of a root
pub record IsHop (records : List RecordState) (root : ℕ) (lists : List (List (List ℕ))) (x : ℕ) (hop : Hop) : Type 0 where
  pub depth : depth_of hop.depth ≡ tree_depth (graph_of records) (name records root) (name records x)
  pub parent_within : hop.parent < length records
  pub parent_is : parent (graph_of records) (name records root) (name records x) ≡ parent_name records x hop.parent
  pub jump_within : hop.jump < length records
  pub jump_above : below (graph_of records) (name records root) (name records hop.jump) (name records hop.parent) ≡ true
  pub children_are : slice_get lists hop.children ≡ Some (children (graph_of records) (name records root) (name records x))

-- the same, whatever the lists
abbrev pub IsSomeHop : List RecordState → ℕ → ℕ → Hop → Type 0
IsSomeHop records root x hop = (lists : List (List (List ℕ))) × IsHop records root lists x hop

-- the tree of a root
pub record IsTree (records : List RecordState) (root : ℕ) (lists : List (List (List ℕ))) (hops : List Hop) : Type 0 where
  pub long : length hops ≡ length records
  pub each : (x : ℕ) (d : Hop) → x < length records → IsHop records root lists x (slice_index_or hops x d)

-- the trees of all roots, in their order
pub record AreTrees (records : List RecordState) (names : List (List ℕ)) (trees : List (List Hop)) (lists : List (List (List ℕ))) : Type 0 where
  pub names_are : names ≡ ids records
  pub ascending : IsAscending (ids records)
  pub long : length trees ≡ length records
  pub each : (root : ℕ) → root < length records → IsTree records root lists (slice_index_or trees root [])
