-- The neighbours on the way in a tree to what is sought.
use Rattle.std.specs.Prelude.{ℕ, ◌&&◌, Bool, List}
use Rattle.zr_log.specs.declared.log.Log.{Log}
use Rattle.zr_node_spec.specs.Samples.{is_toward}
use Rattle.zr_node_spec.specs.Tables.{TableState, graph}
use Rattle.zr_push_sought.specs.Sought.{is_in_log}
use Rattle.zr_push_sought.specs.declared.sought.Sought.{Sought}
use Rattle.zr_tree.specs.Tree.{reached}
use Rattle.zr_tree.specs.Way.{WayState}

-- this router in the tree of a root
abbrev pub way_of : TableState → List ℕ → WayState
way_of t tree = record { records = t.base.records; root = tree; at = t.base.me }

-- the neighbour is on the way in the tree to the router of a log, which is reached and whose clients have declared what is sought
abbrev pub is_way_to : TableState → List ℕ → Sought → List ℕ → List ℕ → Log → Bool
is_way_to t tree sought key name log = is_in_log sought key log && (reached (graph t) t.base.me log.source && is_toward t tree log.source name)
