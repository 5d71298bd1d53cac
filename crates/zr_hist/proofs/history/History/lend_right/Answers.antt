use Rattle.std.proofs.Common.{rules}
use Rattle.zr_hist.proofs.Keeping.{lends_right}
use Rattle.zr_hist.proofs.history.History.lend_right.Goals as goal

pub join_seat-requires : goal.join_seat-requires
join_seat-requires g c = (search rules, search rules, search rules, search rules, lends_right _ _ _ _ (search rules) (search rules))
