-- What is left of the weight is that of what stays, and of those on the link to which the loop hasn't come.
use Rattle.std.proofs.Common.{◌≡◌, ◌+◌, ◌==◌, drop, filter}
use Rattle.zr_pend_spec.specs.Held.{gatherings_off, held_weight}
use Rattle.zr_pend.proofs.gatherings.weight_off.Given as goal

abbrev pub invariant-loop-gathering : goal.invariant-loop-gathering
invariant-loop-gathering l =
    l.held ≡ held_weight (gatherings_off l.items l.link) + held_weight (filter (λ g. g.asker.link.0 == l.link.0) (drop l.gathering-index l.items))
