use Rattle.zr_world_ends.proofs.waiting.mark.Goals as goal

pub returns-clause-handles : goal.returns-clause-handles
returns-clause-handles c = λ q. rw (← c.can_handle.ensures) (c.set.ensures.marks q)

pub returns-clause-takes : goal.returns-clause-takes
returns-clause-takes c = λ q. rw (← c.can_take.ensures) (c.set-2.ensures.marks q)
