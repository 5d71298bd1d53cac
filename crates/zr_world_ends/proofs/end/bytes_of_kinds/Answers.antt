use Rattle.std.proofs.Common.{◌+◌, ◌-◌, ◌^◌, ◌∙◌, false}
use Rattle.std.specs.Prelude.{min}
use Rattle.zr_world_ends.specs.declared.kind.WireKind.{WireKind}
use Rattle.zr_world_ends.proofs.Sums.{capped_at}
use Rattle.zr_world_ends.proofs.end.bytes_of_kinds.Goals as goal

pub loop-kind-preserved : goal.loop-kind-preserved
loop-kind-preserved c =
    c.saturating_add-sum.ensures ∙ (λ j. min (c.loop-kind.invariant j + c.bytes_in.ensures j) (2 ^ 64 - 1))
    ∙ capped_at (λ (k : WireKind). k.bytes) c.args.kinds.now c.loop-kind.kind-index (record { calm = false; sample = false; bytes = 0 }) (2 ^ 64 - 1) c.loop-kind-test.true
