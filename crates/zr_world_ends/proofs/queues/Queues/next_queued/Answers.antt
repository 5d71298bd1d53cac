use Rattle.std.proofs.Common.{◌∙◌}
use Rattle.zr_world_ends.proofs.Index.{lent_takes}
use Rattle.zr_world_ends.proofs.queues.Queues.next_queued.Goals as goal

pub invariant_of-self : goal.invariant_of-self
invariant_of-self c =
    lent_takes c.self.inside.list.items _ c.next_queued.new.ends c.self.inside.to_handle.items c.self.inside.to_take.items _ c.next_queued.new.to_take _ _ c.deref_mut.ensures.value c.deref_mut-2.ensures.value
    (c.next_queued.auto.ends ∙ c.deref_mut.ensures.len) (c.next_queued.auto.to_take ∙ c.deref_mut-2.ensures.len) (c.next_queued.ensures.index _) c.self.invariant
