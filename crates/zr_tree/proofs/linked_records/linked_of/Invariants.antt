use Rattle.std.proofs.Common.{◌≡◌, ◌++◌, filter, drop}
use Rattle.zr_tree.specs.Linked.{linked, makes_edge}
use Rattle.zr_tree.proofs.linked_records.linked_of.Given as goal

abbrev pub invariant-loop-r : goal.invariant-loop-r
invariant-loop-r l = l.linked.items ++ filter (makes_edge l.records) (drop l.r-index l.records) ≡ linked l.records
