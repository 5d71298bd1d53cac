-- What is found of routers once one has heard of an event, and its clients were told: that router as the event leaves it, and the others as they were.
use Rattle.std.proofs.Common.{◌≡◌, ℕ, false, cond, List, Some, ap, ◌∙◌}
use Rattle.zr_id.specs.Zid.{is_named}
use Rattle.zr_graph.proofs.Names.{same_refl}
use Rattle.zr_msg.specs.declared.event.Event.{Event}
use Rattle.zr_world_spec.specs.World.{RouterState, Routers, router_of, with_router}
use Rattle.zr_world_spec.specs.Acts.{hearing, having_told}
use Rattle.zr_world_spec.proofs.Names.{read_after}
use Rattle.zr_law_declared.proofs.Hearing.{heard_router}

module _ (routers : Routers) (x : List ℕ) (r : RouterState) (found : router_of routers x ≡ Some r) (event : Event) where
  pub router_then : router_of (with_router (with_router routers x (hearing r event)) x (having_told r event)) x ≡ Some (having_told r event)
  router_then = heard_router (λ o. o) routers x x r event ∙ read_after (λ o. o) routers x x r (having_told r event) found
      ∙ ap (λ b. cond b (Some (having_told r event)) (router_of routers x)) (same_refl x)

  pub router_apart : (y : List ℕ) → is_named x y ≡ false → router_of (with_router (with_router routers x (hearing r event)) x (having_told r event)) y ≡ router_of routers y
  router_apart y other = heard_router (λ o. o) routers x y r event ∙ read_after (λ o. o) routers x y r (having_told r event) found
      ∙ ap (λ b. cond b (Some (having_told r event)) (router_of routers y)) other
