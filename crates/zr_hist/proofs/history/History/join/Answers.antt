use Rattle.std.proofs.Common.{rules, ap}
use Rattle.zr_hist.proofs.Keeping.{joins, compares, is_joining}
use Rattle.zr_hist.proofs.history.History.join.Goals as goal

pub join_seat-requires : goal.join_seat-requires
join_seat-requires g c = (search rules, search rules, search rules, search rules, joins _ _ _ _ (ap (λ m. m.0) c.args.pass.now.plain))

pub load-requires : goal.load-requires
load-requires g c = (search rules, search rules, compares _ _ _ (is_joining _ _ _ _ _ (ap (λ m. m.0) c.join_seat.ensures.2)))
