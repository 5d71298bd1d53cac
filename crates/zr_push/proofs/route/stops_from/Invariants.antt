-- The stops that are left are left to be added.
use Rattle.std.proofs.Common.{[], drop}
use Rattle.zr_lists.proofs.Prefixes.{IsSoFar}
use Rattle.zr_push.specs.Route.{stops_from}
use Rattle.zr_push.proofs.route.stops_from.Given as goal

abbrev pub invariant-loop-stop : goal.invariant-loop-stop
invariant-loop-stop l = IsSoFar [] (stops_from l.stops l.from.0) l.left.items (stops_from (drop l.stop-index l.stops) l.from.0)
