use Rattle.std.proofs.Common.{◌≡◌, ◌++◌, take, drop, length, ◌∙◌}
use Rattle.std.proofs.lemmas.List.{take_at}
use Rattle.zr_world_ends.proofs.Index.{lent_takes}
use Rattle.zr_world_ends.proofs.queues.Queues.enqueue.Goals as goal

pub returns-clause-queued : goal.returns-clause-queued
returns-clause-queued c =
    let back : take c.self.inside.list.len (c.enqueue.new.ends ++ drop (length c.enqueue.new.ends) c.self.inside.list.items) ≡ c.enqueue.new.ends =
    take_at c.enqueue.new.ends (drop (length c.enqueue.new.ends) c.self.inside.list.items) _ (c.enqueue.auto.ends ∙ c.deref_mut.ensures.len) in
    rw (← c.self.view_is, back) (rw c.deref_mut.ensures.value at c.enqueue.ensures.queued)

pub invariant_of-self : goal.invariant_of-self
invariant_of-self c =
    lent_takes c.self.inside.list.items _ c.enqueue.new.ends c.self.inside.to_handle.items c.self.inside.to_take.items _ c.enqueue.new.to_take _ _ c.deref_mut.ensures.value c.deref_mut-2.ensures.value
    (c.enqueue.auto.ends ∙ c.deref_mut.ensures.len) (c.enqueue.auto.to_take ∙ c.deref_mut-2.ensures.len) (c.enqueue.ensures.index _) c.self.invariant
