use Rattle.std.proofs.Common.{rules, ap}
use Rattle.zr_hist.proofs.Keeping.{looks_beside, is_appending}
use Rattle.zr_hist.proofs.history.History.look_beside.Goals as goal

pub load-count-requires : goal.load-count-requires
load-count-requires g c = (search rules, search rules, looks_beside _ _ _ (is_appending _ _ _ _ _ (ap (λ m. m.0) c.lend_right.ensures.lent)))
