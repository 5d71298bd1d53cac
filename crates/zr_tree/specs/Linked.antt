-- Records that make an edge, apart from those that make none.
use Rattle.std.specs.Prelude.{◌≡◌, ℕ, Bool, List}
use Rattle.std.specs.List.{filter, list_any}
use Rattle.zr_id.specs.Record.{RecordState}
use Rattle.zr_graph.specs.Record.{ids, lists, has_edge, edge_weight, IsAscending}

-- one of the links of a record is linked back
abbrev pub makes_edge : List RecordState → RecordState → Bool
makes_edge records r = list_any (λ l. lists records l.id r.id) r.links

-- the records that make an edge
abbrev pub linked : List RecordState → List RecordState
linked records = filter (makes_edge records) records

-- some records make the edges that all of these do, of the same weights; both are in ascending order
pub record MakeEdgesOf (some all : List RecordState) : Type 0 where
  pub some_ascend : IsAscending (ids some)
  pub all_ascend : IsAscending (ids all)
  pub edges : (x y : List ℕ) → has_edge some x y ≡ has_edge all x y
  pub weights : (x y : List ℕ) → edge_weight some x y ≡ edge_weight all x y
