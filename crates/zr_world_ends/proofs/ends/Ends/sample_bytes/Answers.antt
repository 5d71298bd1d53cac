use Rattle.std.proofs.Common.{◌-◌, ◌^◌, ap, ◌∙◌}
use Rattle.std.specs.Prelude.{min}
use Rattle.std.specs.List.{sum_by}
use Rattle.zr_world_spec.specs.Fan.{sample_bytes, waiting_at}
use Rattle.zr_world_spec.specs.World.{Ends}
use Rattle.zr_world_ends.specs.Carried.{seen_ends}
use Rattle.zr_world_ends.specs.Kept.{KeptEnds, waiting_bytes}
use Rattle.zr_world_ends.proofs.Keeping.{all_bytes}
use Rattle.zr_world_ends.proofs.Seen.{kept_all}
use Rattle.zr_world_ends.proofs.ends.Ends.sample_bytes.Goals as goal

pub returns : goal.returns
returns g c =
    c.sample_bytes.ensures ∙ ap (λ (z : KeptEnds). min (sum_by (λ e. waiting_bytes e.1) z) (2 ^ 64 - 1)) (c.list.ensures.list ∙ kept_all (g.C.Carrier.wire c.self.inside.carrier) c.self.inside.queues c.self.invariant)
    ∙ all_bytes (seen_ends (g.C.Carrier.wire c.self.inside.carrier) c.self.inside.queues) ∙ ap (λ (z : Ends). min (sum_by (λ e. sum_by (λ m. sample_bytes m.msg) (waiting_at e.1)) z) (2 ^ 64 - 1)) c.self.view_is
