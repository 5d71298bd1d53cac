-- What was found and what is left make all.
use Rattle.std.proofs.Common.{◌≡◌, ◌++◌}
use Rattle.zr_told.specs.Plan.{marked_fresh}
use Rattle.zr_told.proofs.book.Book.fresh.Given as goal

abbrev pub invariant-loop-place : goal.invariant-loop-place
invariant-loop-place l =
    l.fresh.items ++ marked_fresh l.self l.place-iterator ≡ marked_fresh l.self l.marks.entries
