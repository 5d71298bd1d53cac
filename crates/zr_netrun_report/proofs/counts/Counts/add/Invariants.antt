-- The lines so far are counted.
use Rattle.std.proofs.Common.{◌≡◌, take}
use Rattle.zr_netrun_report.specs.Counted.{with_lines}
use Rattle.zr_netrun_report.proofs.counts.Counts.add.Given as goal

abbrev pub invariant-loop-line : goal.invariant-loop-line
invariant-loop-line g l = l.self ≡ with_lines l.world.state.routers l.fn.self (take l.line-index l.report)
