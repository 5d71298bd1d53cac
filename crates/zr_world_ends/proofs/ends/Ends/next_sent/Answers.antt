use Rattle.zr_world_ends.proofs.ends.Ends.next_sent.Goals as goal

pub invariant_of-self : goal.invariant_of-self
invariant_of-self g c = c.receive.ensures.carried

pub returns : goal.returns
returns g c = rw (← c.self.view_is) c.receive.ensures.steps
