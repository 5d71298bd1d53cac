use Rattle.zr_decl.proofs.Fitting.{read_declared}
use Rattle.zr_decl.proofs.reading.read_decl.Goals as goal

pub returns-clause-fits : goal.returns-clause-fits
returns-clause-fits c = read_declared _ _ _ _ c.in_ok-declared.declared c.in_ok-declared.ensures
