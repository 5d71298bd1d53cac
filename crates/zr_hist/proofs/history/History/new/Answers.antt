use Rattle.std.proofs.Common.{rules}
use Rattle.zr_hist.proofs.Keeping.{starts, splits}
use Rattle.zr_hist.proofs.history.History.new.Goals as goal

pub of_words-requires : goal.of_words-requires
of_words-requires g c = starts

pub split_seat-first-requires : goal.split_seat-first-requires
split_seat-first-requires g c = (search rules, search rules, splits _ _)
