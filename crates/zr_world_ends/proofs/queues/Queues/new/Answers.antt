use Rattle.zr_world_ends.proofs.Index.{indexed_none}
use Rattle.zr_world_ends.proofs.queues.Queues.new.Goals as goal

pub invariant_of-result : goal.invariant_of-result
invariant_of-result c = rw (c.new.ensures.items, c.new-2.ensures.items, c.new-3.ensures.items) indexed_none
