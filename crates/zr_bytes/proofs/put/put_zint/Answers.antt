use Rattle.std.proofs.Common.{◌<◌, ◌∙◌, length-set, arith}
use Rattle.std.proofs.lemmas.Grind.{common_steps}
use Rattle.zr_bytes.proofs.Groups.{put_more, put_last, rest_falls}
use Rattle.zr_bytes.proofs.put.put_zint.Goals as goal
use Rattle.zr_bytes.proofs.put.put_zint.Goals.{then-groups-test+else-count, else-groups-test}

pub groups-preserved : goal.groups-preserved
groups-preserved c = record {
  few = omega arith;
  sized = length-set _ _ _ ∙ c.groups.invariant.sized;
  high = rest_falls _ _ _ c.groups.invariant.high;
  same = put_more _ _ _ _ c.groups.invariant.sized (omega arith) (omega arith) c.groups.invariant.same;
}

pub returns-clause-ok : goal.returns-clause-ok
returns-clause-ok c =
    let low : c.groups.count < 8 → c.groups.rest < 128 = elim c.groups-test.branch [ then-groups-test+else-count w ↦ λ lt. absurd (omega arith) | else-groups-test w ↦ λ lt. omega arith ] in
    let last = put_last c.groups.count c.groups.rest c.groups.bytes _ c.groups.invariant.sized c.groups.invariant.few low c.groups.invariant.same in
    grind (arith, common_steps, last, c.extend_from_slice.ensures.items)
