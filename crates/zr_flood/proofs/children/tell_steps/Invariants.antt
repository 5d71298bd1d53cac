-- What the declarations that are left tell is left to be said, with the numbers behind those so far.
use Rattle.std.proofs.Common.{◌+◌, ◌<◌, ◌^◌, drop, length, map}
use Rattle.zr_node_spec.specs.Changes.{steps}
use Rattle.zr_lists.proofs.Prefixes.{IsSoFar}
use Rattle.zr_flood.specs.Tell.{all_to_each}
use Rattle.zr_flood.proofs.children.tell_steps.Given as goal

abbrev pub invariant-loop-decl : goal.invariant-loop-decl
invariant-loop-decl l = record {
  room : l.number + length (drop l.decl-index l.decls) < 2 ^ 64;
  said : IsSoFar l.fn.out.items (all_to_each l.to (steps l.me l.fn.number (map (λ d. record { added = l.added; decl = d }) l.decls))) l.out.items
      (all_to_each l.to (steps l.me l.number (map (λ d. record { added = l.added; decl = d }) (drop l.decl-index l.decls))));
}
