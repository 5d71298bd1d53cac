use Rattle.std.proofs.Common.{take, drop}
use Rattle.zr_world.specs.Show.{source_lines}
use Rattle.zr_world.proofs.Show.{err_by, behind_begun, sources_cut}
use Rattle.zr_world.proofs.marks.tell_sources.Goals as goal

pub returns-in_err-line-clause-err : goal.returns-in_err-line-clause-err
returns-in_err-line-clause-err c = err_by c.from_residual.result
    (behind_begun c.args.report.now.items (source_lines c.args.logs.now) (source_lines (take c.loop-log.log-index c.args.logs.now)) (source_lines (drop c.loop-log.log-index c.args.logs.now)) c.loop-log.report.items
    (sources_cut c.args.logs.now c.loop-log.log-index) c.loop-log.invariant)

pub returns-in_err-push-clause-err : goal.returns-in_err-push-clause-err
returns-in_err-push-clause-err c = err_by c.from_residual-in_err-push.result
    (rw c.in_err-push.ensures.items
    (behind_begun c.args.report.now.items (source_lines c.args.logs.now) (source_lines (take c.loop-log.log-index c.args.logs.now)) (source_lines (drop c.loop-log.log-index c.args.logs.now)) c.loop-log.report.items
    (sources_cut c.args.logs.now c.loop-log.log-index) c.loop-log.invariant))
