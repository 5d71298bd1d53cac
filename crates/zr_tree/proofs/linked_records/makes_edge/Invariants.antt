use Rattle.std.proofs.Common.{◌≡◌, drop}
use Rattle.zr_tree.specs.Linked.{makes_edge}
use Rattle.std.specs.List.{list_any}
use Rattle.zr_graph.specs.Record.{lists}
use Rattle.zr_tree.proofs.linked_records.makes_edge.Given as goal

abbrev pub invariant-loop-link : goal.invariant-loop-link
invariant-loop-link l = list_any (λ m. lists l.records m.id l.r.id) (drop l.link-index l.r.links) ≡ makes_edge l.records l.r
