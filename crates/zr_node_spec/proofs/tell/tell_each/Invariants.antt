-- What the links that are left get is left to be said.
use Rattle.std.proofs.Common.{drop}
use Rattle.zr_lists.proofs.Prefixes.{IsSoFar}
use Rattle.zr_node_spec.specs.Each.{to_each}
use Rattle.zr_node_spec.proofs.tell.tell_each.Given as goal

abbrev pub invariant-loop-link : goal.invariant-loop-link
invariant-loop-link l = IsSoFar l.fn.out.items (to_each l.to l.msg) l.out.items (to_each (drop l.link-index l.to) l.msg)
