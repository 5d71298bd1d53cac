use Rattle.std.proofs.Common.{◌≡◌, ◌-◌, ◌^◌, take}
use Rattle.std.specs.Prelude.{min}
use Rattle.std.specs.List.{sum_by}
use Rattle.zr_world_ends.specs.Kept.{waiting_count}
use Rattle.zr_world_ends.proofs.totals.count.Given as goal

abbrev pub invariant-loop-named : goal.invariant-loop-named
invariant-loop-named l = l.sum ≡ min (sum_by (λ e. waiting_count e.1) (take l.named-index l.ends)) (2 ^ 64 - 1)
