use Rattle.std.proofs.Common.{ap, ◌∙◌}
use Rattle.zr_world_spec.specs.World.{Ends}
use Rattle.zr_world_ends.specs.Kept.{kept_ends}
use Rattle.zr_world_ends.proofs.Seen.{kept_all}
use Rattle.zr_world_ends.proofs.ends.Ends.list.Goals as goal

pub returns : goal.returns
returns g c = c.list.ensures.list ∙ kept_all (g.C.Carrier.wire c.self.inside.carrier) c.self.inside.queues c.self.invariant ∙ ap (λ (z : Ends). kept_ends z) c.self.view_is
