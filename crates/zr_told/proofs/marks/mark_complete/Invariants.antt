-- What is left to mark leads to the same end.
use Rattle.std.proofs.Common.{◌≡◌, drop}
use Rattle.zr_told.specs.Plan.{mark_complete}
use Rattle.zr_told.proofs.marks.mark_complete.Given as goal

abbrev pub invariant-loop-decl : goal.invariant-loop-decl
invariant-loop-decl l = mark_complete (drop l.decl-index l.others) l.marks.entries ≡ mark_complete l.others l.fn.marks.entries
