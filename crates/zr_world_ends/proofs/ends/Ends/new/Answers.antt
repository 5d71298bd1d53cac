use Rattle.std.proofs.Common.{sym, ap, subst}
use Rattle.zr_world_ends.specs.Carried.{AreCarried, seen_ends}
use Rattle.zr_world_ends.specs.Kept.{KeptEnds}
use Rattle.zr_world_ends.proofs.Draining.{carried_none}
use Rattle.zr_world_ends.proofs.ends.Ends.new.Goals as goal

pub invariant_of-result : goal.invariant_of-result
invariant_of-result g c = subst (λ (z : KeptEnds). AreCarried (g.C.Carrier.wire c.args.carrier) z) (sym c.new.ensures) (carried_none (g.C.Carrier.wire c.args.carrier))

pub returns : goal.returns
returns g c = ap (λ (z : KeptEnds). seen_ends (g.C.Carrier.wire c.args.carrier) z) c.new.ensures
