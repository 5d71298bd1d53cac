-- What the records that are left tell is left to be said.
use Rattle.std.proofs.Common.{map, drop}
use Rattle.zr_msg.specs.declared.msg.Msg.TheVariants.{State}
use Rattle.zr_lists.proofs.Prefixes.{IsSoFar}
use Rattle.zr_flood.specs.Flood.{all_to}
use Rattle.zr_flood.proofs.flood.tell_all.Given as goal

abbrev pub invariant-loop-record : goal.invariant-loop-record
invariant-loop-record l = IsSoFar l.fn.out.items (all_to l.base l.to) l.out.items (map (λ r. (l.to, State r)) (drop l.record-index l.record-items))
