-- In which trees one router is the parent of its neighbours.
use Rattle.std.specs.Prelude.{◌≡◌, ℕ, ◌<◌, ◌&&◌, not, Bool, false, List, [], Option, length, slice_index_or}
use Rattle.std.specs.List.{list_any}
use Rattle.zr_id.specs.Record.{RecordState}
use Rattle.zr_graph.specs.Base.{BaseState}
use Rattle.zr_graph.specs.Record.{ids, IsAscending}
use Rattle.zr_tree_parents.specs.declared.row.Neighbour.{Neighbour}
use Rattle.zr_tree.specs.Index.{name}
use Rattle.zr_tree.specs.Searches.{is_nearer}
use Rattle.zr_tree.specs.Tree.{is_child}
use Rattle.zr_tree.specs.Walk.{graph_of}

-- router `me` is nearer to a root than the child by the edge to it, and none of these others is by its own
abbrev pub is_first : List (Option (List (Option ℕ))) → Neighbour → List Neighbour → ℕ → ℕ → Bool
is_first searches me others child root = is_nearer searches me child root && not (list_any (λ z. is_nearer searches z child root) others)

-- by the index of the root, whether a router is the parent of another one in its tree
abbrev pub AreFlags : List RecordState → List ℕ → ℕ → List Bool → Type 0
AreFlags records me child flags =
    (root : ℕ) → root < length records → slice_index_or flags root false ≡ is_child (graph_of records) (name records root) me (name records child)

-- the flags of all routers, in their order
pub record AreAllFlags (records : List RecordState) (me : List ℕ) (all : List (List Bool)) : Type 0 where
  pub long : length all ≡ length records
  pub each : (child : ℕ) → child < length records → AreFlags records me child (slice_index_or all child [])

-- with the names of the routers
pub record IsFamily (b : BaseState) (names : List (List ℕ)) (all : List (List Bool)) : Type 0 where
  pub names_are : names ≡ ids b.records
  pub ascending : IsAscending (ids b.records)
  pub flags : AreAllFlags b.records b.me all
