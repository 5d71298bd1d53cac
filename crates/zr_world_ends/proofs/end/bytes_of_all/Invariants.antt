use Rattle.std.proofs.Common.{◌≡◌, ◌-◌, ◌^◌, take}
use Rattle.std.specs.Prelude.{min}
use Rattle.std.specs.List.{sum_by}
use Rattle.zr_world_spec.specs.Fan.{sample_bytes}
use Rattle.zr_world_ends.proofs.end.bytes_of_all.Given as goal

abbrev pub invariant-loop-x : goal.invariant-loop-x
invariant-loop-x l = l.sum ≡ min (sum_by (λ m. sample_bytes m.msg) (take l.x-index l.waiting)) (2 ^ 64 - 1)
