use Rattle.std.proofs.Common.{ap, ◌∙◌}
use Rattle.std.specs.Option.{option_map}
use Rattle.zr_world_spec.specs.World.{Ends, end_of}
use Rattle.zr_world_ends.specs.Kept.{kept}
use Rattle.zr_world_ends.proofs.Seen.{kept_found}
use Rattle.zr_world_ends.proofs.ends.Ends.get.Goals as goal

pub returns : goal.returns
returns g c = c.get.ensures ∙ kept_found (g.C.Carrier.wire c.self.inside.carrier) c.self.inside.queues c.args.at c.self.invariant ∙ ap (λ (z : Ends). option_map kept (end_of z c.args.at)) c.self.view_is
