use Rattle.std.proofs.Common.{ap, ◌∙◌}
use Rattle.std.specs.Prelude.{◌&&◌}
use Rattle.std.specs.List.{list_all}
use Rattle.zr_world_ends.specs.Kept.{KeptEnds, is_calm_end}
use Rattle.zr_world.specs.Settled.{is_kept_met}
use Rattle.zr_world.specs.State.{state_of}
use Rattle.zr_world.proofs.Kept.{settled_kept}
use Rattle.zr_world.proofs.tables.WorldTables.is_settled.Goals as goal

pub returns : goal.returns
returns g c =
    c.are_settled.ensures ∙ ap (λ (ks : KeptEnds). list_all (λ x. is_kept_met (state_of c.args.self.now) x.0 x.1 && is_calm_end x.1) ks) c.list.ensures
    ∙ settled_kept (state_of c.args.self.now)
