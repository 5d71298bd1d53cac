-- The links that are left are left to be added.
use Rattle.std.proofs.Common.{[], drop}
use Rattle.zr_node_spec.specs.Table.{without_linked}
use Rattle.zr_lists.proofs.Prefixes.{IsSoFar}
use Rattle.zr_node.proofs.own.without_linked.Given as goal

abbrev pub invariant-loop-link : goal.invariant-loop-link
invariant-loop-link l = IsSoFar [] (without_linked l.links l.id) l.rest.items (without_linked (drop l.link-index l.links) l.id)
