use Rattle.std.proofs.Common.{◌≡◌, ◌++◌, take, drop, length, ◌∙◌}
use Rattle.std.proofs.lemmas.List.{take_at}
use Rattle.zr_world_ends.proofs.Index.{lent_handles}
use Rattle.zr_world_ends.proofs.queues.Queues.announce.Goals as goal

pub returns-clause-announced : goal.returns-clause-announced
returns-clause-announced c =
    let back : take c.self.inside.list.len (c.announce.new.ends ++ drop (length c.announce.new.ends) c.self.inside.list.items) ≡ c.announce.new.ends =
    take_at c.announce.new.ends (drop (length c.announce.new.ends) c.self.inside.list.items) _ (c.announce.auto.ends ∙ c.deref_mut.ensures.len) in
    rw (← c.self.view_is, back) (rw c.deref_mut.ensures.value at c.announce.ensures.announced)

pub invariant_of-self : goal.invariant_of-self
invariant_of-self c =
    lent_handles c.self.inside.list.items _ c.announce.new.ends c.self.inside.to_handle.items _ c.announce.new.to_handle c.self.inside.to_take.items _ _ c.deref_mut.ensures.value c.deref_mut-2.ensures.value
    (c.announce.auto.ends ∙ c.deref_mut.ensures.len) (c.announce.auto.to_handle ∙ c.deref_mut-2.ensures.len) (c.announce.ensures.index _) c.self.invariant
