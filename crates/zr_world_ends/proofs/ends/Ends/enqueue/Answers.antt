use Rattle.std.proofs.Common.{[], ◌∷◌, refl, sym, ap, ◌∙◌, subst}
use Rattle.std.proofs.lemmas.Result.{on_ok_weaker}
use Rattle.zr_world_spec.specs.World.{queued}
use Rattle.zr_world_ends.specs.Carried.{AreCarried, seen_ends}
use Rattle.zr_world_ends.specs.Kept.{KeptEnds, queued as queued_kept}
use Rattle.zr_world_ends.proofs.Carrying.{still_carried, still_seen}
use Rattle.zr_world_ends.proofs.Putting.{on_either}
use Rattle.zr_world_ends.proofs.ends.Ends.enqueue.Goals as goal

pub invariant_of-self : goal.invariant_of-self
invariant_of-self g c =
    on_either c.enqueue.result c.enqueue.ensures.queued c.enqueue.ensures.err
    (λ e. subst (λ (z : KeptEnds). AreCarried (g.C.Carrier.wire c.self.inside.carrier) z) (sym e) (still_carried (g.C.Carrier.wire c.self.inside.carrier) c.self.inside.queues c.self.invariant c.args.at (λ k. queued_kept k c.args.msg c.args.tag) (λ k. refl) (λ k. refl)))
    (λ e. subst (λ (z : KeptEnds). AreCarried (g.C.Carrier.wire c.self.inside.carrier) z) (sym e) c.self.invariant)

pub returns : goal.returns
returns g c = rw (← c.self.view_is)
    (on_ok_weaker c.enqueue.result
    (λ e. ap (λ (z : KeptEnds). seen_ends (g.C.Carrier.wire c.self.inside.carrier) z) e ∙ still_seen (g.C.Carrier.wire c.self.inside.carrier) c.self.inside.queues c.self.invariant c.args.at (λ k. queued_kept k c.args.msg c.args.tag) (λ s. queued s (c.args.msg ∷ []) c.args.tag) (λ k w. refl))
    c.enqueue.ensures.queued)
