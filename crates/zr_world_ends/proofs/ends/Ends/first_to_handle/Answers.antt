use Rattle.std.proofs.Common.{ap, ◌∙◌}
use Rattle.zr_world_spec.specs.World.{Ends}
use Rattle.zr_world_spec.specs.Next.{first_where, can_handle}
use Rattle.zr_world_ends.specs.Kept.{can_handle as kept_can_handle}
use Rattle.zr_world_ends.proofs.Keeping.{handle_same}
use Rattle.zr_world_ends.proofs.Seen.{first_same}
use Rattle.zr_world_ends.proofs.ends.Ends.first_to_handle.Goals as goal

pub returns : goal.returns
returns g c = c.first_to_handle.ensures ∙ first_same kept_can_handle can_handle handle_same (g.C.Carrier.wire c.self.inside.carrier) c.self.inside.queues c.self.invariant ∙ ap (λ (z : Ends). first_where can_handle z) c.self.view_is
