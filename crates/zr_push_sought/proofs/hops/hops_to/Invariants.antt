-- A neighbour is among those so far, or on the way to one of the logs that are left.
use Rattle.std.proofs.Common.{◌≡◌, ◌||◌, ℕ, List, drop}
use Rattle.std.specs.List.{list_any}
use Rattle.zr_graph.specs.Record.{has}
use Rattle.zr_push_sought.specs.Hops.{is_way_to, way_of}
use Rattle.zr_push_sought.proofs.hops.hops_to.Given as goal

abbrev pub invariant-loop-log : goal.invariant-loop-log
invariant-loop-log l = record {
  way : l.way ≡ way_of l.tables l.fn.tree;
  hops : (name : List ℕ) → (has l.hops name || list_any (is_way_to l.tables l.fn.tree l.sought l.key name) (drop l.log-index l.logs)) ≡ list_any (is_way_to l.tables l.fn.tree l.sought l.key name) l.logs;
}
