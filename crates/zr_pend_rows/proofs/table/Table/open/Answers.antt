use Rattle.zr_pend_spec.specs.Pending.{is_full}
use Rattle.zr_pend_rows.proofs.Loops.{opened_more, none_more}
use Rattle.zr_pend_rows.proofs.table.Table.open.Goals as goal

pub loop-link-preserved : goal.loop-link-preserved
loop-link-preserved c = (
  opened_more c.args.self.now c.args.to.now c.loop-link.link-index _ c.loop-link.branches.items c.push.new.self.items c.free_number-number.result c.loop-link-test.true c.free_number-number.ensures c.in_ok-push.ensures.items c.loop-link.invariant.0,
  none_more (λ l. is_full l c.args.self.now) c.args.to.now c.loop-link.link-index (record { 0 = 0 }) c.loop-link-test.true c.loop-link.invariant.1,
)
