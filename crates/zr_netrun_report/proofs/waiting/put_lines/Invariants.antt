-- The text of the lines so far stands behind what waited.
use Rattle.std.proofs.Common.{◌≡◌, ◌++◌, take}
use Rattle.std.specs.List.{flat_map}
use Rattle.zr_script_spec.specs.Report.{line_text}
use Rattle.zr_netrun_report.proofs.waiting.put_lines.Given as goal

abbrev pub invariant-loop-line : goal.invariant-loop-line
invariant-loop-line l = l.pending.items ≡ l.fn.pending.items ++ flat_map line_text (take l.line-index l.report)
