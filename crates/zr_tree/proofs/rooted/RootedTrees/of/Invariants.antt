use Rattle.std.proofs.Common.{◌≡◌, ℕ, ◌<◌, [], length, get_or}
use Rattle.zr_tree.specs.Hop.{IsTree}
use Rattle.zr_tree.proofs.rooted.RootedTrees.of.Given as goal

abbrev pub invariant-loop-root : goal.invariant-loop-root
invariant-loop-root l = record {
  long : length l.trees.items ≡ l.root;
  each : (r : ℕ) → r < l.root → IsTree l.records.items r l.lists.lists (get_or l.trees.items r []);
  routers : l.lists.routers ≡ length l.records.items;
}
