use Rattle.std.proofs.Common.{◌≡◌, arith, false, []}
use Rattle.std.proofs.lemmas.List.Sums.{sum_by_push}
use Rattle.zr_pend_spec.specs.Held.{GatheringState, gathering_weight, gathers_for}
use Rattle.zr_pend_spec.proofs.Gathered.{differ_begun}
use Rattle.zr_pend.proofs.gatherings.Gatherings.begin.Goals as goal

pub invariant_of-self-2 : goal.invariant_of-self-2
invariant_of-self-2 c =
    let held = c.self.inside.items.items in
    let fresh : gathers_for held c.args.asker ≡ false = rw c.self.view_is c.requires in
    let new : GatheringState = record { asker = c.args.asker; held = [] } in
    rw (c.in_ok-push.ensures.items, c.new.ensures) (
      differ_begun c.args.asker held fresh c.self.invariant.0,
      omega (arith, c.self.invariant.1, sum_by_push gathering_weight held new),
      omega (arith, c.self.invariant.2, sum_by_push gathering_weight held new),
    )
