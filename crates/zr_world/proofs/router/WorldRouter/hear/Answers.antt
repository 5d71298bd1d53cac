use Rattle.std.proofs.Common.{refl, ap, subst}
use Rattle.zr_told_spec.specs.Hub.{HubState}
use Rattle.zr_world_spec.specs.World.{RouterState}
use Rattle.zr_world.specs.Hearing.{IsHeard}
use Rattle.zr_world.proofs.Hearing.{with_hub, is_handled, is_refused}
use Rattle.zr_world.proofs.router.WorldRouter.hear.Goals as goal
use Rattle.zr_world.proofs.router.WorldRouter.hear.Goals.{in-Ok, in-Err}

pub returns : goal.returns
returns c =
    let old : RouterState = record { node = c.self.inside.hub.node; told = c.self.inside.hub.told; weight = c.self.inside.weight } in
    let new : RouterState = with_hub old c.handle.new.self in
    subst (λ (z : RouterState). IsHeard c.match-handle.result z new c.args.event.now c.handle.new.out.items) c.self.view_is
    (elim c.match-handle.branch [
      | in-Ok w ↦
          rw w.result-is
          (is_handled old c.args.event.now c.clear.new.self.items c.handle.new.out.items c.handle.new.self w.in-Ok.ensures.refused w.in-Ok.ensures.state c.clear.ensures.items w.in-Ok.ensures.sends)
      | in-Err w ↦
          rw w.result-is
          (is_refused old new c.args.event.now c.handle.new.out.items w.refusal.result w.in-Err.e w.in-Err.ensures.refused
          (λ k. ap (λ (h : HubState). with_hub old h) (w.in-Err.ensures.unchanged w.in-Err.e k refl).0) w.refusal.ensures)
    ])
