use Rattle.zr_net.proofs.Fitting.{read_fits}
use Rattle.zr_net.proofs.reading.read_net.Goals as goal

pub returns-clause-fits : goal.returns-clause-fits
returns-clause-fits c = read_fits _ _ _ _ _ c.in_ok-declared.declared c.in_ok-declared.ensures
