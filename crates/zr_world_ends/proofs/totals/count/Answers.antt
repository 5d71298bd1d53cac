use Rattle.std.proofs.Common.{◌+◌, ◌-◌, ◌^◌, ◌∙◌, arith}
use Rattle.std.specs.Prelude.{min}
use Rattle.zr_world_spec.specs.World.{End}
use Rattle.zr_world_ends.specs.Kept.{KeptEnd, waiting_count}
use Rattle.zr_world_ends.proofs.Sums.{capped_more}
use Rattle.zr_world_ends.proofs.totals.count.Goals as goal

pub loop-named-preserved : goal.loop-named-preserved
loop-named-preserved c =
    c.saturating_add-sum.ensures ∙ (λ j. min (c.loop-named.invariant j + c.count.ensures j) (2 ^ 64 - 1))
    ∙ capped_more (λ (e : End × KeptEnd). waiting_count e.1) c.args.ends.now c.loop-named.named-index c.named-item.result (2 ^ 64 - 1) (omega arith) c.named-item.is
