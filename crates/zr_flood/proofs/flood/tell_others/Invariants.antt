-- What the links that are left get is left to be said.
use Rattle.std.proofs.Common.{drop}
use Rattle.zr_msg.specs.declared.msg.Msg.TheVariants.{State}
use Rattle.zr_lists.proofs.Prefixes.{IsSoFar}
use Rattle.zr_flood.specs.Flood.{to_others}
use Rattle.zr_flood.proofs.flood.tell_others.Given as goal

abbrev pub invariant-loop-link : goal.invariant-loop-link
invariant-loop-link l =
    IsSoFar l.fn.out.items (to_others l.links l.from.0 (State l.told)) l.out.items (to_others (drop l.link-index l.links) l.from.0 (State l.told))
