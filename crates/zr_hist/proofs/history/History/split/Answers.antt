use Rattle.std.proofs.Common.{rules}
use Rattle.zr_hist.proofs.Keeping.{splits}
use Rattle.zr_hist.proofs.history.History.split.Goals as goal

pub split_seat-seat-requires : goal.split_seat-seat-requires
split_seat-seat-requires g c = (search rules, search rules, splits _ _)
