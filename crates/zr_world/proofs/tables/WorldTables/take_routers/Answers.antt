use Rattle.std.proofs.Common.{◌≡◌, [], ap, ◌∙◌, subst}
use Rattle.std.specs.Prelude.{IfOk}
use Rattle.zr_world_spec.specs.World.{Routers, with_routers}
use Rattle.zr_world.specs.Fanned.{AreTaken}
use Rattle.zr_world.specs.State.{state_of}
use Rattle.zr_world.proofs.Fanning.{whatever}
use Rattle.zr_world.proofs.tables.WorldTables.take_routers.Goals as goal

pub returns-clause-taken : goal.returns-clause-taken
returns-clause-taken g c = subst (λ (z : Routers). IfOk c.shares_of.result (λ x. AreTaken z x.0.items x.1.items)) (λ i. (c.replace-routers.ensures.value i).entries) c.shares_of.ensures

pub returns-clause-rest : goal.returns-clause-rest
returns-clause-rest g c =
    let none : c.replace-routers.new.dest.entries ≡ [] = (λ i. (c.replace-routers.ensures.after i).entries) ∙ c.new.ensures.empty in
    whatever c.shares_of.result _ (ap (λ (z : Routers). with_routers (state_of c.args.self.now) z) none)
