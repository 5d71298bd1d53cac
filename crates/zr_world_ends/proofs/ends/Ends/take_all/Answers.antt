use Rattle.std.proofs.Common.{◌≡◌, sym, ap, ◌∙◌, subst}
use Rattle.zr_law_fan.specs.Samples.{emptied as emptied_ends}
use Rattle.zr_world_spec.specs.World.{Ends}
use Rattle.zr_world_ends.specs.Carried.{AreCarried, AreDrained, seen_ends}
use Rattle.zr_world_ends.specs.Kept.{KeptEnds, emptied}
use Rattle.zr_world_ends.proofs.Draining.{carried_idle, seen_idle}
use Rattle.zr_world_ends.proofs.ends.Ends.take_all.Goals as goal

pub invariant_of-self-2 : goal.invariant_of-self-2
invariant_of-self-2 g c =
    let was : c.in_ok-ends.ends.items ≡ c.self.inside.queues = c.in_ok-ends.ensures.0 ∙ c.replace-queues.ensures.value in
    let left : c.take_all.new.self ≡ emptied c.self.inside.queues = c.in_ok-ends.ensures.1 ∙ ap (λ (z : KeptEnds). emptied z) c.replace-queues.ensures.value in
    subst (λ (z : KeptEnds). AreCarried (g.C.Carrier.wire c.drain_all.new.carrier) z) (sym left)
    (carried_idle (g.C.Carrier.wire c.self.inside.carrier) (g.C.Carrier.wire c.drain_all.new.carrier) c.self.inside.queues c.self.invariant (subst (λ (z : KeptEnds). AreDrained z (g.C.Carrier.wire c.self.inside.carrier) (g.C.Carrier.wire c.drain_all.new.carrier)) was c.in_ok-drained.ensures.wires))

pub returns : goal.returns
returns g c =
    let was : c.in_ok-ends.ends.items ≡ c.self.inside.queues = c.in_ok-ends.ensures.0 ∙ c.replace-queues.ensures.value in
    let left : c.take_all.new.self ≡ emptied c.self.inside.queues = c.in_ok-ends.ensures.1 ∙ ap (λ (z : KeptEnds). emptied z) c.replace-queues.ensures.value in (
      c.in_ok-drained.ensures.drained ∙ ap (λ (z : KeptEnds). seen_ends (g.C.Carrier.wire c.self.inside.carrier) z) was ∙ c.self.view_is,
      ap (λ (z : KeptEnds). seen_ends (g.C.Carrier.wire c.drain_all.new.carrier) z) left ∙ seen_idle (g.C.Carrier.wire c.self.inside.carrier) (g.C.Carrier.wire c.drain_all.new.carrier) c.self.inside.queues c.self.invariant (subst (λ (z : KeptEnds). AreDrained z (g.C.Carrier.wire c.self.inside.carrier) (g.C.Carrier.wire c.drain_all.new.carrier)) was c.in_ok-drained.ensures.wires)
          ∙ ap (λ (z : Ends). emptied_ends z) c.self.view_is,
    )
