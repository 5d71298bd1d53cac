-- What was found and what is left make all.
use Rattle.std.proofs.Common.{◌≡◌, ◌++◌}
use Rattle.zr_told.specs.Plan.{marked_gone}
use Rattle.zr_told.proofs.book.Book.gone.Given as goal

abbrev pub invariant-loop-place : goal.invariant-loop-place
invariant-loop-place l =
    l.gone.items ++ marked_gone l.self l.place-iterator ≡ marked_gone l.self l.marks.entries
