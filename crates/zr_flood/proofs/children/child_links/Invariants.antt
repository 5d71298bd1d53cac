-- The links that are left are left to be added.
use Rattle.std.proofs.Common.{[], drop}
use Rattle.zr_lists.proofs.Prefixes.{IsSoFar}
use Rattle.zr_flood.specs.Tell.{children_among}
use Rattle.zr_flood.proofs.children.child_links.Given as goal

abbrev pub invariant-loop-link : goal.invariant-loop-link
invariant-loop-link l = IsSoFar [] (children_among l.links l.family l.root) l.to.items (children_among (drop l.link-index l.links) l.family l.root)
