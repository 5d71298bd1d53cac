-- What was taken and what is left to be taken make all, no asker stands twice among those that are left, and there is room for each.
use Rattle.std.proofs.Common.{◌≡◌, ◌≤◌, ◌+◌, ◌++◌, true, map, length, drop}
use Rattle.std.specs.List.{fold}
use Rattle.std.specs.Vec.{vec_len, vec_capacity}
use Rattle.zr_pend_spec.specs.Held.{are_apart, ending, gatherings_without}
use Rattle.zr_pend.proofs.gatherings.Gatherings.take_all.Given as goal

abbrev pub invariant-loop-asker : goal.invariant-loop-asker
invariant-loop-asker l =
    let left = drop l.asker-index l.askers in
    (fold gatherings_without l.self left ≡ fold gatherings_without l.fn.self l.askers)
    × (l.ended.items ++ map (λ a. ending l.self a) left ≡ l.fn.ended.items ++ map (λ a. ending l.fn.self a) l.askers)
    × (are_apart left ≡ true)
    × (vec_len l.ended + length left ≤ vec_capacity l.ended)
