use Rattle.std.proofs.Common.{◌≡◌, ◌+◌, ◌-◌, ◌^◌, ◌≤◌, min, drop}
use Rattle.std.specs.List.{sum_by}
use Rattle.zr_router_core.specs.Room.{foreign_count}
use Rattle.zr_router_core.proofs.counts.count_foreign.Given as goal

abbrev pub invariant-loop-log : goal.invariant-loop-log
invariant-loop-log l = record {
  counted : min (l.count + sum_by (foreign_count l.me) (drop l.log-index l.logs)) (2 ^ 64 - 1) ≡ min (l.fn.count + sum_by (foreign_count l.me) l.fn.logs) (2 ^ 64 - 1);
  small : l.count ≤ 2 ^ 64 - 1;
}
