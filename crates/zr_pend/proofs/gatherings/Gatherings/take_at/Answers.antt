use Rattle.std.proofs.Common.{◌<◌, ap, arith, length}
use Rattle.std.proofs.lemmas.List.Sums.{sum_by-remove}
use Rattle.zr_pend_spec.specs.Held.{gathering_weight}
use Rattle.zr_pend_spec.proofs.Gathered.{differ_removed}
use Rattle.zr_pend.proofs.gatherings.Gatherings.take_at.Goals as goal

pub invariant_of-self : goal.invariant_of-self
invariant_of-self c =
    let held = c.self.inside.items.items in
    let g = c.remove-gathering.result in
    let within : c.args.at < length held = rw c.self.view_is c.requires in
    let weighs = sum_by-remove gathering_weight held c.args.at g within in
    rw c.remove-gathering.ensures.items (
      differ_removed held c.args.at c.self.invariant.0,
      omega (arith, c.self.invariant.1, c.weight.ensures, ap gathering_weight c.remove-gathering.ensures.value, weighs),
      omega (arith, c.self.invariant.2, weighs),
    )
