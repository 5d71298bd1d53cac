use Rattle.std.proofs.Common.{◌≡◌, ◌-◌, ◌^◌, take}
use Rattle.std.specs.Prelude.{min}
use Rattle.std.specs.List.{sum_by}
use Rattle.zr_world_ends.proofs.end.bytes_of_kinds.Given as goal

abbrev pub invariant-loop-kind : goal.invariant-loop-kind
invariant-loop-kind l = l.sum ≡ min (sum_by (λ k. k.bytes) (take l.kind-index l.kinds)) (2 ^ 64 - 1)
