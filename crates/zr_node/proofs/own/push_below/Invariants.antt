-- The links that are left are left to be added.
use Rattle.std.proofs.Common.{drop, filter}
use Rattle.zr_id.specs.Record.{is_before}
use Rattle.zr_lists.proofs.Prefixes.{IsSoFar}
use Rattle.zr_node.proofs.own.push_below.Given as goal

abbrev pub invariant-loop-link : goal.invariant-loop-link
invariant-loop-link l = IsSoFar l.fn.all.items (filter (λ k. is_before k.id l.id) l.links) l.all.items (filter (λ k. is_before k.id l.id) (drop l.link-index l.links))
