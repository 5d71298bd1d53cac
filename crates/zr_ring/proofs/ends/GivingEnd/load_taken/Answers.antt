use Rattle.std.proofs.Common.{rules}
use Rattle.zr_ring.proofs.Keeping.{loads_taken, is_giver_view}
use Rattle.zr_ring.proofs.ends.GivingEnd.load_taken.Goals as goal

pub load-requires : goal.load-requires
load-requires g c = (search rules, search rules, loads_taken _ _ _ _ (is_giver_view _ _ _ _ _ c.args.self.now.knows))
