use Rattle.std.proofs.Common.{refl, sym, ap, ◌∙◌, subst}
use Rattle.zr_world_spec.specs.World.{lifted}
use Rattle.zr_world_ends.specs.Carried.{AreCarried, seen_ends}
use Rattle.zr_world_ends.specs.Kept.{KeptEnds, lifted as lifted_kept}
use Rattle.zr_world_ends.proofs.Carrying.{still_carried, still_seen}
use Rattle.zr_world_ends.proofs.Same.{changed_by_look_up}
use Rattle.zr_world_ends.proofs.Seen.{sorted_seen}
use Rattle.zr_world_ends.proofs.ends.Ends.lift.Goals as goal

pub invariant_of-self : goal.invariant_of-self
invariant_of-self g c =
    subst (λ (z : KeptEnds). AreCarried (g.C.Carrier.wire c.self.inside.carrier) z) (sym c.lift.ensures) (still_carried (g.C.Carrier.wire c.self.inside.carrier) c.self.inside.queues c.self.invariant c.args.at lifted_kept (λ k. refl) (λ k. refl))

pub returns : goal.returns
returns g c = rw (← c.self.view_is)
    (ap (λ (z : KeptEnds). seen_ends (g.C.Carrier.wire c.self.inside.carrier) z) c.lift.ensures ∙ still_seen (g.C.Carrier.wire c.self.inside.carrier) c.self.inside.queues c.self.invariant c.args.at lifted_kept lifted (λ k w. refl)
    ∙ sym (changed_by_look_up (seen_ends (g.C.Carrier.wire c.self.inside.carrier) c.self.inside.queues) c.args.at lifted (sorted_seen (g.C.Carrier.wire c.self.inside.carrier) c.self.inside.queues c.self.invariant.ordered)))
