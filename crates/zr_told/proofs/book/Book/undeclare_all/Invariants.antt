-- What the places that are left are told is left to be said.
use Rattle.std.proofs.Common.{drop}
use Rattle.zr_lists.proofs.Prefixes.{IsSoFar}
use Rattle.zr_told_spec.specs.Rows.{sent_on}
use Rattle.zr_told_spec.specs.Told.{undeclared}
use Rattle.zr_told.proofs.book.Book.undeclare_all.Given as goal

abbrev pub invariant-loop-place : goal.invariant-loop-place
invariant-loop-place l =
    IsSoFar l.fn.out.items (sent_on l.link (undeclared l.self l.places)) l.out.items (sent_on l.link (undeclared l.self (drop l.place-index l.places)))
