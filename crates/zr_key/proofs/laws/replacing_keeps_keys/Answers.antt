use Rattle.zr_key.proofs.SameKeys.{LeadsTo-forth, LeadsTo-back}
use Rattle.zr_key.proofs.laws.replacing_keeps_keys.Goals as goal

pub returns : goal.returns
returns c e f leads key = (LeadsTo-forth leads key, LeadsTo-back leads key)
