use Rattle.std.proofs.Common.{◌≡◌, map, take}
use Rattle.zr_router_glance.specs.Glance.{parent_at}
use Rattle.zr_router_glance.proofs.glancing.parents_in.Given as goal

abbrev pub invariant-loop-root : goal.invariant-loop-root
invariant-loop-root l = l.parents.items ≡ map (λ root. parent_at l.trees l.me root) (take l.root-index l.roots)
