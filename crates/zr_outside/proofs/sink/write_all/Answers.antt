use Rattle.std.proofs.Common.{◌∙◌, ◌≤◌, ◌-◌, length, arith}
use Rattle.zr_outside.proofs.Appending.{appends_more, prefix_stays}
use Rattle.zr_outside.proofs.Counting.{counted_same}
use Rattle.zr_outside.proofs.sink.write_all.Goals as goal

pub loop-at-preserved : goal.loop-at-preserved
loop-at-preserved g c =
    let le : c.in-Took.count ≤ length c.args.text.now - c.loop-at.at = grind (arith, c.in-Took.ensures.bytes.1) in (
      omega arith,
      counted_same _ _ _ c.in-Took.ensures.failed (λ e. absurd cc) ∙ c.loop-at.invariant.1,
      appends_more c.args.text.now c.loop-at.at c.in-Took.count _ _ _ le c.loop-at.invariant.2 c.in-Took.ensures.bytes.2,
    )

pub returns-in-Failed-clause-err : goal.returns-in-Failed-clause-err
returns-in-Failed-clause-err g c = prefix_stays c.args.text.now c.loop-at.at _ _ _ c.loop-at.invariant.2 c.in-Failed.ensures.bytes
