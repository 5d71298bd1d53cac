use Rattle.std.proofs.Common.{◌-◌, ◌^◌, length, ap, ◌∙◌}
use Rattle.std.specs.Prelude.{min}
use Rattle.std.specs.List.{sum_by}
use Rattle.zr_world_spec.specs.Fan.{waiting_at}
use Rattle.zr_world_spec.specs.World.{Ends}
use Rattle.zr_world_ends.specs.Carried.{seen_ends}
use Rattle.zr_world_ends.specs.Kept.{KeptEnds, waiting_count}
use Rattle.zr_world_ends.proofs.Keeping.{all_counted}
use Rattle.zr_world_ends.proofs.Seen.{kept_all}
use Rattle.zr_world_ends.proofs.ends.Ends.count.Goals as goal

pub returns : goal.returns
returns g c =
    c.count.ensures ∙ ap (λ (z : KeptEnds). min (sum_by (λ e. waiting_count e.1) z) (2 ^ 64 - 1)) (c.list.ensures.list ∙ kept_all (g.C.Carrier.wire c.self.inside.carrier) c.self.inside.queues c.self.invariant)
    ∙ ap (λ n. min n (2 ^ 64 - 1)) (all_counted (seen_ends (g.C.Carrier.wire c.self.inside.carrier) c.self.inside.queues)) ∙ ap (λ (z : Ends). min (sum_by (λ e. length (waiting_at e.1)) z) (2 ^ 64 - 1)) c.self.view_is
