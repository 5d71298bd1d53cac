-- The links that are left are left to be added.
use Rattle.std.proofs.Common.{[], drop}
use Rattle.zr_lists.proofs.Prefixes.{IsSoFar}
use Rattle.zr_flood.specs.Tell.{picked, leads_to_new_child}
use Rattle.zr_flood.proofs.children.new_child_links.Given as goal

abbrev pub invariant-loop-link : goal.invariant-loop-link
invariant-loop-link l =
    IsSoFar [] (picked (λ k. leads_to_new_child l.family l.before l.root k) l.links) l.to.items (picked (λ k. leads_to_new_child l.family l.before l.root k) (drop l.link-index l.links))
