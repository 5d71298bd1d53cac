use Rattle.std.proofs.Common.{◌∙◌}
use Rattle.zr_world_ends.proofs.Index.{lent_handles}
use Rattle.zr_world_ends.proofs.queues.Queues.lose.Goals as goal

pub invariant_of-self : goal.invariant_of-self
invariant_of-self c =
    lent_handles c.self.inside.list.items _ c.lose.new.ends c.self.inside.to_handle.items _ c.lose.new.to_handle c.self.inside.to_take.items _ _ c.deref_mut.ensures.value c.deref_mut-2.ensures.value
    (c.lose.auto.ends ∙ c.deref_mut.ensures.len) (c.lose.auto.to_handle ∙ c.deref_mut-2.ensures.len) (c.lose.ensures.index _) c.self.invariant
