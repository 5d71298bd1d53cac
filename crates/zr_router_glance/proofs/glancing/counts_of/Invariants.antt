use Rattle.std.proofs.Common.{◌≡◌, map, take}
use Rattle.zr_router_glance.specs.Glance.{count_of}
use Rattle.zr_router_glance.proofs.glancing.counts_of.Given as goal

abbrev pub invariant-loop-log : goal.invariant-loop-log
invariant-loop-log l = l.counts.items ≡ map (λ n. count_of n) (take l.log-index l.logs)
