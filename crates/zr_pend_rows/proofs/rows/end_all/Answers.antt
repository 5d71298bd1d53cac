use Rattle.std.proofs.Common.{◌∙◌, ◌+◌, arith, ap, get_or, length-drop}
use Rattle.std.specs.Map.{values_of}
use Rattle.zr_pend_spec.specs.Pending.{are_distinct, branch, branches}
use Rattle.zr_pend_rows.proofs.Ending.{ended_distinct}
use Rattle.zr_pend_rows.proofs.Loops.{ended_more, finals_more}
use Rattle.zr_pend_rows.proofs.rows.end_all.Goals as goal

pub loop-number-preserved : goal.loop-number-preserved
loop-number-preserved c =
    let h = c.loop-number.invariant in
    let i = c.loop-number.number-index in (
      ended_more c.args.link c.args.numbers.now i 0 (values_of c.loop-number.rows.entries) (values_of c.end_in-asker.new.rows.entries) c.loop-number-test.true c.end_in-asker.ensures.rows _ h.0,
      finals_more c.args.link c.args.numbers.now i 0 (values_of c.loop-number.rows.entries) (values_of c.end_in-asker.new.rows.entries) c.loop-number-test.true c.end_in-asker.ensures.rows
          c.loop-number.askers.items c.tell.new.askers.items _ c.end_in-asker.result c.end_in-asker.ensures.asker c.tell.ensures.items h.1,
      ap (λ rs. are_distinct (branches rs)) c.end_in-asker.ensures.rows ∙ ended_distinct (values_of c.loop-number.rows.entries) (branch c.args.link (get_or c.args.numbers.now i 0)) h.2,
      omega (arith, c.loop-number-test.true, c.tell.ensures.room, h.3, length-drop i c.args.numbers.now, length-drop (i + 1) c.args.numbers.now),
    )
