use Rattle.std.proofs.Common.{◌≡◌, ◌++◌, map, filter, drop}
use Rattle.zr_router_queue.specs.Ends.{is_closing}
use Rattle.zr_router_queue.proofs.event.closed_of.Given as goal

abbrev pub invariant-loop-end : goal.invariant-loop-end
invariant-loop-end l = l.links.items ++ map (λ x. x.queue.link) (filter (λ x. is_closing x) (drop l.end-index l.ends)) ≡ map (λ x. x.queue.link) (filter (λ x. is_closing x) l.ends)
