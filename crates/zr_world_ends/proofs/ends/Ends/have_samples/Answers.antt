use Rattle.std.proofs.Common.{ap, ◌∙◌}
use Rattle.std.specs.List.{list_all}
use Rattle.zr_world_spec.specs.Fan.{is_sample, waiting_at}
use Rattle.zr_world_spec.specs.World.{Ends}
use Rattle.zr_world_ends.specs.Carried.{seen_ends}
use Rattle.zr_world_ends.specs.Kept.{KeptEnds, has_samples}
use Rattle.zr_world_ends.proofs.Keeping.{all_samples}
use Rattle.zr_world_ends.proofs.Seen.{kept_all}
use Rattle.zr_world_ends.proofs.ends.Ends.have_samples.Goals as goal

pub returns : goal.returns
returns g c =
    c.have_samples.ensures ∙ ap (λ (z : KeptEnds). list_all (λ e. has_samples e.1) z) (c.list.ensures.list ∙ kept_all (g.C.Carrier.wire c.self.inside.carrier) c.self.inside.queues c.self.invariant)
    ∙ all_samples (seen_ends (g.C.Carrier.wire c.self.inside.carrier) c.self.inside.queues) ∙ ap (λ (z : Ends). list_all (λ e. list_all (λ m. is_sample m.msg) (waiting_at e.1)) z) c.self.view_is
