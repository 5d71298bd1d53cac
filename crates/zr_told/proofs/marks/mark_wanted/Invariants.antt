-- What is left to mark leads to the same end.
use Rattle.std.proofs.Common.{◌≡◌, drop}
use Rattle.zr_told.specs.Plan.{mark_wanted}
use Rattle.zr_told.proofs.marks.mark_wanted.Given as goal

abbrev pub invariant-loop-decl : goal.invariant-loop-decl
invariant-loop-decl l = mark_wanted (drop l.decl-index l.others) l.marks.entries l.interest ≡ mark_wanted l.others l.fn.marks.entries l.interest
