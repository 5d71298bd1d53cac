use Rattle.zr_net.proofs.writing.put_push.Goals as goal

pub returns-clause-ok : goal.returns-clause-ok
returns-clause-ok c = rw (c.deref.ensures.value, c.in_ok-exts.ensures.items, c.extras.ensures) at c.put_sample.ensures.ok
