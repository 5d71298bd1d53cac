use Rattle.std.proofs.Common.{rules, ap}
use Rattle.zr_hist.proofs.Keeping.{looks}
use Rattle.zr_hist.proofs.history.History.look.Goals as goal

pub load-requires : goal.load-requires
load-requires g c = (search rules, search rules, looks _ _ _ (ap (λ m. m.0) c.args.pass.now.plain))
