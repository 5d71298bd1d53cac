use Rattle.std.proofs.Common.{take, drop}
use Rattle.zr_world.specs.Show.{record_lines}
use Rattle.zr_world.proofs.Show.{err_by, behind_begun, records_cut}
use Rattle.zr_world.proofs.marks.tell_records.Goals as goal

pub returns-in_err-record-clause-err : goal.returns-in_err-record-clause-err
returns-in_err-record-clause-err c = err_by c.from_residual.result
    (behind_begun c.args.report.now.items (record_lines c.args.records.now) (record_lines (take c.loop-r.r-index c.args.records.now)) (record_lines (drop c.loop-r.r-index c.args.records.now)) c.loop-r.report.items
    (records_cut c.args.records.now c.loop-r.r-index) c.loop-r.invariant)

pub returns-in_err-push-clause-err : goal.returns-in_err-push-clause-err
returns-in_err-push-clause-err c = err_by c.from_residual-in_err-push.result
    (rw c.in_err-push.ensures.items
    (behind_begun c.args.report.now.items (record_lines c.args.records.now) (record_lines (take c.loop-r.r-index c.args.records.now)) (record_lines (drop c.loop-r.r-index c.args.records.now)) c.loop-r.report.items
    (records_cut c.args.records.now c.loop-r.r-index) c.loop-r.invariant))
