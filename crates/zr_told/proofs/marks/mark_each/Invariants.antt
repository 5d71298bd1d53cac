-- What is left to mark leads to the same end.
use Rattle.std.proofs.Common.{◌≡◌, drop}
use Rattle.std.specs.List.{fold}
use Rattle.zr_told.specs.Plan.{mark_wanted}
use Rattle.zr_told.proofs.marks.mark_each.Given as goal

abbrev pub invariant-loop-interest : goal.invariant-loop-interest
invariant-loop-interest l = fold (mark_wanted l.others) l.marks.entries (drop l.interest-index l.interests) ≡ fold (mark_wanted l.others) l.fn.marks.entries l.interests
