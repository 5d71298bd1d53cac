-- What is left to queue leads to the same ends as all of it.
use Rattle.std.proofs.Common.{◌≡◌}
use Rattle.std.specs.Vec.Iter.{drain_items}
use Rattle.zr_world_ends.specs.Spread.{all_queued_on}
use Rattle.zr_world.proofs.spread.spread.Given as goal

abbrev pub invariant-loop-link : goal.invariant-loop-link
invariant-loop-link g l =
    all_queued_on l.router.node.links l.ends l.name (drain_items l.link-iterator) l.tag ≡ all_queued_on l.router.node.links l.fn.ends l.name l.fn.out.items l.tag
