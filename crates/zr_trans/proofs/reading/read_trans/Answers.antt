use Rattle.zr_trans.proofs.Written.{read_fits}
use Rattle.zr_trans.proofs.reading.read_trans.Goals as goal

pub returns-clause-fits : goal.returns-clause-fits
returns-clause-fits c = read_fits _ _ c.in_ok-t.t c.in_ok-t.ensures
