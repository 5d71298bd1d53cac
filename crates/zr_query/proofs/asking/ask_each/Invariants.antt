-- What the stops that are left are asked is left to be said.
use Rattle.std.proofs.Common.{drop}
use Rattle.zr_lists.proofs.Prefixes.{IsSoFar}
use Rattle.zr_query.specs.Asking.{each_asked}
use Rattle.zr_query.proofs.asking.ask_each.Given as goal

abbrev pub invariant-loop-i : goal.invariant-loop-i
invariant-loop-i l =
    IsSoFar l.fn.out.items (each_asked l.tree l.target l.content l.stops l.numbers) l.out.items (each_asked l.tree l.target l.content (drop l.i l.stops) (drop l.i l.numbers))
