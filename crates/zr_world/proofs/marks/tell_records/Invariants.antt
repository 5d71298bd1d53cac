-- The records so far have been told.
use Rattle.std.proofs.Common.{◌≡◌, ◌++◌, take}
use Rattle.zr_world.specs.Show.{record_lines}
use Rattle.zr_world.proofs.marks.tell_records.Given as goal

abbrev pub invariant-loop-r : goal.invariant-loop-r
invariant-loop-r l = l.report.items ≡ l.fn.report.items ++ record_lines (take l.r-index l.records)
