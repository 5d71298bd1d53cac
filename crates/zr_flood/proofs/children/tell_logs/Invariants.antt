-- What the logs that are left tell is left to be said.
use Rattle.std.proofs.Common.{drop}
use Rattle.std.specs.List.{flat_map}
use Rattle.zr_lists.proofs.Prefixes.{IsSoFar}
use Rattle.zr_flood.specs.Tell.{to_new_children}
use Rattle.zr_flood.proofs.children.tell_logs.Given as goal

abbrev pub invariant-loop-log : goal.invariant-loop-log
invariant-loop-log l =
    IsSoFar l.fn.out.items (flat_map (to_new_children l.links l.family l.before) l.logs) l.out.items (flat_map (to_new_children l.links l.family l.before) (drop l.log-index l.logs))
