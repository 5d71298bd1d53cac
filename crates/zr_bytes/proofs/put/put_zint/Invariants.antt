use Rattle.std.proofs.Common.{◌≡◌, ◌-◌, ◌≤◌, ◌*◌, ◌^◌, ◌++◌, length, take}
use Rattle.zr_bytes.specs.Number.{writes_within}
use Rattle.zr_bytes.proofs.put.put_zint.Given as goal

abbrev pub invariant-groups : goal.invariant-groups
invariant-groups l = record {
  few : l.count ≤ 8;
  sized : length l.bytes ≡ 9;
  high : l.rest * 128 ^ l.count ≤ l.value;
  same : take l.count l.bytes ++ writes_within (8 - l.count) l.rest ≡ writes_within 8 l.value;
}

abbrev pub decreases-groups : goal.decreases-groups
decreases-groups l = 8 - l.count
