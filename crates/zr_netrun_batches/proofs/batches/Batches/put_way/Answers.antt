use Rattle.zr_netrun_batches.proofs.batches.Batches.put_way.Goals as goal

pub returns-clause-put : goal.returns-clause-put
returns-clause-put c = λ f t. c.in_ok-insert.ensures.updates.0 (f, t)
