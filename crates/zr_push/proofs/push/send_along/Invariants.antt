-- What the stops that are left get is left to be said.
use Rattle.std.proofs.Common.{drop}
use Rattle.zr_lists.proofs.Prefixes.{IsSoFar}
use Rattle.zr_push.specs.Route.{sent_along}
use Rattle.zr_push.proofs.push.send_along.Given as goal

abbrev pub invariant-loop-stop : goal.invariant-loop-stop
invariant-loop-stop l =
    IsSoFar l.fn.out.items (sent_along l.stops l.from.0 l.tree l.content) l.out.items (sent_along (drop l.stop-index l.stops) l.from.0 l.tree l.content)
