use Rattle.std.proofs.Common.{rules, ap}
use Rattle.zr_hist.proofs.Keeping.{appends, is_appending}
use Rattle.zr_hist.proofs.history.History.append.Goals as goal

pub compare_exchange_with-kept-requires : goal.compare_exchange_with-kept-requires
compare_exchange_with-kept-requires g c = let now = ap (λ m. m.0) c.lend_right.ensures.lent in
    (search rules, search rules, appends _ _ _ _ _ (is_appending _ _ _ _ _ now) (search rules))
