use Rattle.std.proofs.Common.{refl, ap, ◌∙◌}
use Rattle.zr_world_spec.specs.World.{Ends}
use Rattle.zr_world_spec.specs.Next.{first_where, can_take}
use Rattle.zr_world_ends.specs.Kept.{can_take as kept_can_take}
use Rattle.zr_world_ends.proofs.Seen.{first_same}
use Rattle.zr_world_ends.proofs.ends.Ends.first_to_take.Goals as goal

pub returns : goal.returns
returns g c = c.first_to_take.ensures ∙ first_same kept_can_take can_take (λ s. refl) (g.C.Carrier.wire c.self.inside.carrier) c.self.inside.queues c.self.invariant ∙ ap (λ (z : Ends). first_where can_take z) c.self.view_is
