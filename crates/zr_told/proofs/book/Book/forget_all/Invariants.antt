-- What is left to forget leads to the same end.
use Rattle.std.proofs.Common.{◌≡◌, drop}
use Rattle.zr_told.specs.Plan.{forgotten}
use Rattle.zr_told.proofs.book.Book.forget_all.Given as goal

abbrev pub invariant-loop-place : goal.invariant-loop-place
invariant-loop-place l = forgotten l.self (drop l.place-index l.places) ≡ forgotten l.fn.self l.places
