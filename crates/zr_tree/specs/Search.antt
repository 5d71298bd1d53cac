-- The distances that a search keeps, by index.
use Rattle.std.specs.Prelude.{◌≡◌, ℕ, ◌<◌, List, Option, length}
use Rattle.zr_tree_parents.specs.Distance.{kept_at}
use Rattle.zr_tree.specs.Index.{EdgeTable, name}
use Rattle.zr_tree.specs.Tree.{dist}
use Rattle.zr_tree.specs.Walk.{graph_of}

-- the distances from a root are kept for all routers
pub record AreDistances (e : EdgeTable) (root : ℕ) (distances : List (Option ℕ)) : Type 0 where
  pub long : length distances ≡ length e.records
  pub exact : (x : ℕ) → x < length e.records → kept_at distances x ≡ dist (graph_of e.records) (name e.records root) (name e.records x)
