use Rattle.zr_told_interested.proofs.by_key.ByKey.of.Goals as goal

pub returns : goal.returns
returns c = record { keys = c.know_clients.ensures; keyed = c.in_ok-keyed.ensures; keyless = c.in_ok-keyless.ensures }
