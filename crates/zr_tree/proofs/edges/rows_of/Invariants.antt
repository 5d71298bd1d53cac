use Rattle.std.proofs.Common.{◌≡◌, ℕ, ◌<◌, ◌^◌, All, length, map}
use Rattle.zr_tree_parents.specs.Climb.{row}
use Rattle.zr_tree.specs.Index.{name}
use Rattle.zr_tree.specs.Walk.{graph_of, near, edge_length}
use Rattle.zr_tree.proofs.edges.rows_of.Given as goal

abbrev pub invariant-loop-r : goal.invariant-loop-r
invariant-loop-r l = record {
  long : length l.rows.items ≡ l.r-index;
  neighbours : (i : ℕ) → i < l.r-index → map (λ n. name l.records n.index) (row l.rows.items i) ≡ near (graph_of l.records) (name l.records i);
  within : (i : ℕ) → i < l.r-index → All (λ n. n.index < length l.records) (row l.rows.items i);
  lengths : (i : ℕ) → i < l.r-index → All (λ n. n.weight ≡ edge_length (graph_of l.records) (name l.records n.index) (name l.records i)) (row l.rows.items i);
  weights : (i : ℕ) → i < l.r-index → All (λ n. n.weight < 2 ^ 16) (row l.rows.items i);
}
