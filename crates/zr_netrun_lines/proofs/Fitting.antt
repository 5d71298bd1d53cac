-- The step that a run does next sends nothing for a client, so it may be applied.
use Rattle.std.proofs.Common.{◌≡◌, sym, subst, Option, Some, None}
use Rattle.std.specs.Prelude.{IfSome}
use Rattle.zr_script_spec.specs.declared.command.Act.{Act}
use Rattle.zr_world_spec.specs.World.{End, WorldState}
use Rattle.zr_world_spec.specs.Next.{can_handle, can_take, first_where, next, step_at}
use Rattle.zr_law_calls.specs.Fitting.{IsFit}

step_fits : (heard queued : Option End) → IfSome (step_at heard queued) IsFit
step_fits (Some e) queued = tt
step_fits None (Some e) = tt
step_fits None None = tt

pub next_fits : (w : WorldState) (act : Act) → Some act ≡ next w → IsFit act
next_fits w act is = subst (λ (z : Option Act). IfSome z IsFit) (sym is) (step_fits (first_where can_handle w.ends) (first_where can_take w.ends))
