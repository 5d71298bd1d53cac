use Rattle.std.proofs.Common.{rules, ap}
use Rattle.zr_ring.proofs.Keeping.{looks, is_taker_view}
use Rattle.zr_ring.proofs.ends.TakingEnd.look.Goals as goal

pub load-requires : goal.load-requires
load-requires g c = (search rules, search rules, looks _ _ _ _ (is_taker_view _ _ _ _ _ (ap (λ m. m.0) c.args.self.now.knows)))
