use Rattle.std.proofs.Common.{◌+◌, arith, length-drop}
use Rattle.zr_pend_spec.proofs.Gathered.{apart_more, endings_more, without_more}
use Rattle.zr_pend.proofs.gatherings.Gatherings.take_all.Goals as goal

pub loop-asker-preserved : goal.loop-asker-preserved
loop-asker-preserved c =
    let h = c.loop-asker.invariant in
    let i = c.loop-asker.asker-index in
    let askers = c.args.askers.now in (
      without_more askers i _ c.loop-asker.self c.take-taken.new.self c.loop-asker-test.true c.take-taken.ensures.others _ h.0,
      endings_more askers i _ c.loop-asker.self c.take-taken.new.self c.loop-asker-test.true c.take-taken.ensures.others _ _ _ c.take-taken.result h.2 c.take-taken.ensures.ended c.keep.ensures.items h.1,
      apart_more askers i _ c.loop-asker.self c.take-taken.new.self c.loop-asker-test.true c.take-taken.ensures.others h.2,
      omega (arith, c.loop-asker-test.true, c.keep.ensures.room, h.3, length-drop i askers, length-drop (i + 1) askers),
    )
