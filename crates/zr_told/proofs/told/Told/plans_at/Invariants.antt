-- The plans and what is left to plan make all.
use Rattle.std.proofs.Common.{drop}
use Rattle.std.specs.List.Sorted.{IsStrictlySortedBy}
use Rattle.std.specs.Ordering.{nat_cmp}
use Rattle.zr_told.proofs.Among.{left_of}
use Rattle.zr_told.proofs.Changed.{ArePlanned}
use Rattle.zr_told.proofs.told.Told.plans_at.Given as goal

abbrev pub invariant-loop-link : goal.invariant-loop-link
invariant-loop-link l =
    ArePlanned l.tables l.clients l.self l.plans.items (left_of l.places (drop l.link-index l.links) l.clients)
    × IsStrictlySortedBy nat_cmp (drop l.link-index l.links)
