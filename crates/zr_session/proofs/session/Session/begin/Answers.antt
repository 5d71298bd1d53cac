use Rattle.std.proofs.Common.{refl}
use Rattle.zr_session.proofs.Feeding.{comes_nothing}
use Rattle.zr_session.proofs.session.Session.begin.Goals as goal

pub returns-clause-at : goal.returns-clause-at
returns-clause-at c = rw c.new.ensures (comes_nothing c.args.opening _, refl, refl)
