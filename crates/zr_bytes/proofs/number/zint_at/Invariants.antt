use Rattle.std.proofs.Common.{◌≡◌, ◌-◌, ◌<◌, ◌^◌}
use Rattle.zr_bytes.specs.Reading.{number_within}
use Rattle.zr_bytes.proofs.Groups.{with_low}
use Rattle.zr_bytes.proofs.number.zint_at.Given as goal

abbrev pub invariant-groups : goal.invariant-groups
invariant-groups l = record {
  low : l.value < l.scale;
  scale_is : l.scale ≡ 128 ^ l.counter;
  same : with_low l.value l.scale (number_within (8 - l.counter) l.rest) ≡ number_within 8 l.bytes;
}
