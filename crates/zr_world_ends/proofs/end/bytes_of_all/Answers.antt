use Rattle.std.proofs.Common.{◌+◌, ◌-◌, ◌^◌, ◌∙◌, ap, take, arith}
use Rattle.std.specs.Prelude.{min}
use Rattle.std.specs.List.{sum_by}
use Rattle.zr_world_spec.specs.Fan.{sample_bytes}
use Rattle.zr_world_spec.specs.World.{Tagged}
use Rattle.zr_world_ends.proofs.Sums.{capped_more}
use Rattle.zr_world_ends.proofs.end.bytes_of_all.Goals as goal

pub loop-x-preserved : goal.loop-x-preserved
loop-x-preserved c =
    c.saturating_add-sum.ensures ∙ (λ j. min (c.loop-x.invariant j + c.bytes_of.ensures j) (2 ^ 64 - 1))
    ∙ ap (λ (m : Tagged). min (min (sum_by (λ m. sample_bytes m.msg) (take c.loop-x.x-index c.args.waiting.now)) (2 ^ 64 - 1) + min (sample_bytes m.msg) (2 ^ 64 - 1)) (2 ^ 64 - 1)) c.x.view_is
    ∙ capped_more (λ (m : Tagged). sample_bytes m.msg) c.args.waiting.now c.loop-x.x-index c.x-item.result (2 ^ 64 - 1) (omega arith) c.x-item.is
