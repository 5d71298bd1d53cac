-- What is told of a router's tables, in parts.
use Rattle.std.specs.Prelude.{ℕ, not, List, [], ◌∷◌, if◌then◌else◌, map, filter}
use Rattle.zr_id.specs.Record.{RecordState}
use Rattle.zr_id.specs.Zid.{is_named}
use Rattle.zr_graph.specs.Record.{ids}
use Rattle.zr_tree.specs.Walk.{graph_of}
use Rattle.zr_tree.specs.Tree.{parent}
use Rattle.zr_script_spec.specs.declared.report.ReportLine.{ReportLine}
use Rattle.zr_script_spec.specs.declared.report.ReportLine.TheVariants.{Record, Parent}
use Rattle.zr_log.specs.declared.log.Log.{Log}
use Rattle.zr_world_spec.specs.Acts.{source_line}

-- the records
abbrev pub record_lines : List RecordState → List ReportLine
record_lines records = map (λ r. Record r) records

-- the parent of the router itself in the tree of a root, unless that is the router
abbrev pub parent_told : List RecordState → List ℕ → List ℕ → List ReportLine
parent_told trees me root = if is_named root me then [] else Parent root (parent (graph_of trees) root me) ∷ []

-- the router's parents in the trees of these routers
abbrev pub parent_lines : List RecordState → List ℕ → List RecordState → List ReportLine
parent_lines trees me roots = map (λ root. Parent root (parent (graph_of trees) root me)) (filter (λ id. not (is_named id me)) (ids roots))

-- what is known of each log
abbrev pub source_lines : List Log → List ReportLine
source_lines logs = map source_line logs
