use Rattle.std.proofs.Common.{◌≡◌, ◌++◌, map, filter, drop}
use Rattle.zr_router_queue.specs.Ends.{is_dropped}
use Rattle.zr_router_queue.proofs.event.dropped_of.Given as goal

abbrev pub invariant-loop-end : goal.invariant-loop-end
invariant-loop-end l = l.links.items ++ map (λ x. x.queue.link) (filter (λ x. is_dropped x) (drop l.end-index l.ends)) ≡ map (λ x. x.queue.link) (filter (λ x. is_dropped x) l.ends)
