use Rattle.std.proofs.Common.{subst}
use Rattle.zr_oam.proofs.Fitting.{AreBytes, read_fits}
use Rattle.zr_oam.proofs.reading.read_oam.Goals as goal

pub returns-clause-fits : goal.returns-clause-fits
returns-clause-fits c = read_fits _ _ _ (subst AreBytes c.as_slice.ensures c.are_bytes.ensures) c.in_ok-msg.ensures
