-- What is known of the logs so far has been told.
use Rattle.std.proofs.Common.{◌≡◌, ◌++◌, take}
use Rattle.zr_world.specs.Show.{source_lines}
use Rattle.zr_world.proofs.marks.tell_sources.Given as goal

abbrev pub invariant-loop-log : goal.invariant-loop-log
invariant-loop-log l = l.report.items ≡ l.fn.report.items ++ source_lines (take l.log-index l.logs)
