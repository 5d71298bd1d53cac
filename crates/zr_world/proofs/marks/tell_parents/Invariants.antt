-- The parents in the trees of the roots so far have been told.
use Rattle.std.proofs.Common.{◌≡◌, ◌++◌, take}
use Rattle.zr_world.specs.Show.{parent_lines}
use Rattle.zr_world.proofs.marks.tell_parents.Given as goal

abbrev pub invariant-loop-r : goal.invariant-loop-r
invariant-loop-r l = l.report.items ≡ l.fn.report.items ++ parent_lines l.base.records l.base.me (take l.r-index l.base.records)
