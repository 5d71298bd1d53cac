-- What was counted and what is left make all.
use Rattle.std.proofs.Common.{◌≡◌, ◌+◌, drop}
use Rattle.zr_told.specs.Plan.{count_new}
use Rattle.zr_told.proofs.book.Book.count_new.Given as goal

abbrev pub invariant-loop-wanted : goal.invariant-loop-wanted
invariant-loop-wanted l = l.count + count_new l.self (drop l.wanted-index l.fresh) ≡ count_new l.self l.fresh
