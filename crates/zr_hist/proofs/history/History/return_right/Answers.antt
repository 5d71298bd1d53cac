use Rattle.std.proofs.Common.{rules, ap}
use Rattle.zr_hist.proofs.Keeping.{returns_right}
use Rattle.zr_hist.proofs.history.History.return_right.Goals as goal

pub split_seat-requires : goal.split_seat-requires
split_seat-requires g c = (search rules, search rules, returns_right _ _ (ap (λ m. m.0) c.requires.seat))
