-- Routers by their index in ascending order.
use Rattle.std.specs.Prelude.{◌≡◌, ℕ, ◌<◌, ◌-◌, ◌^◌, max, true, List, [], length, map, All, slice_index_or}
use Rattle.zr_id.specs.Record.{LinkedState, RecordState, linked_ids}
use Rattle.zr_graph.specs.Record.{has, ids, lists, weight_given, weight_to, IsAscending}
use Rattle.zr_tree_parents.specs.declared.row.Neighbour.{Neighbour}
use Rattle.zr_tree_parents.specs.Climb.{row}
use Rattle.zr_tree.specs.Walk.{graph_of, near, edge_length}

-- the identifier at an index
abbrev pub name : List RecordState → ℕ → List ℕ
name records i = slice_index_or (ids records) i []

-- the neighbours of each router of the records, by index
pub record EdgeTable : Type 0 where
  pub records : List RecordState
  pub rows : List (List Neighbour)

-- the rows list the neighbours and what the edges from them weigh, and the indexes fit 32 bits
pub record AreEdges (e : EdgeTable) : Type 0 where
  pub ascending : IsAscending (ids e.records)
  pub small : length e.records < 2 ^ 32 - 1
  pub long : length e.rows ≡ length e.records
  pub neighbours : (i : ℕ) → i < length e.records → map (λ n. name e.records n.index) (row e.rows i) ≡ near (graph_of e.records) (name e.records i)
  pub within : (i : ℕ) → i < length e.records → All (λ n. n.index < length e.records) (row e.rows i)
  pub lengths : (i : ℕ) → i < length e.records → All (λ n. n.weight ≡ edge_length (graph_of e.records) (name e.records n.index) (name e.records i)) (row e.rows i)
  pub weights : (i : ℕ) → i < length e.records → All (λ n. n.weight < 2 ^ 16) (row e.rows i)

-- links lead to a router with this weight
pub record IsGiven (links : List LinkedState) (to : List ℕ) (weight : ℕ) : Type 0 where
  pub listed : has (linked_ids links) to ≡ true
  pub is : weight ≡ weight_to links to
  pub heavy : 0 < weight

-- the record at the neighbour's index is that of a link's router, which lists the other one; the edge weighs the greater of the two weights
pub record LinksBack (records : List RecordState) (from : List ℕ) (link : LinkedState) (n : Neighbour) : Type 0 where
  pub within : n.index < length records
  pub named : name records n.index ≡ link.id
  pub listed : lists records link.id from ≡ true
  pub heavy : 0 < n.weight
  pub greater : n.weight ≡ max link.weight (weight_given records link.id from)
  pub fits : n.weight < 2 ^ 16
