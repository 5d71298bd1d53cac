use Rattle.zr_world_ends.proofs.ends.Ends.send.Goals as goal

pub send-requires-clause-may : goal.send-requires-clause-may
send-requires-clause-may g c = rw c.self.view_is c.requires

pub send-requires-clause-carried : goal.send-requires-clause-carried
send-requires-clause-carried g c = c.self.invariant

pub invariant_of-self : goal.invariant_of-self
invariant_of-self g c = c.send.ensures.carried

pub returns-clause-sent : goal.returns-clause-sent
returns-clause-sent g c = rw (← c.self.view_is) c.send.ensures.sent

pub returns-clause-changed : goal.returns-clause-changed
returns-clause-changed g c = rw (← c.self.view_is) c.send.ensures.changed
