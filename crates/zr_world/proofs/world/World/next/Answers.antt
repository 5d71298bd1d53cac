use Rattle.std.proofs.Common.{ap, ◌∙◌, subst}
use Rattle.std.specs.Prelude.{IfSome}
use Rattle.zr_world.specs.State.{state_of}
use Rattle.zr_world_spec.specs.Sound.{IsSound}
use Rattle.zr_world.specs.Living.{Living, IsPossible}
use Rattle.zr_world.proofs.Possible.{next_possible, reached_led}
use Rattle.zr_world.proofs.world.World.next.Goals as goal

pub returns-clause-possible : goal.returns-clause-possible
returns-clause-possible g c = λ alive.
    subst (λ (l : Living). IfSome c.next.result (λ step. IsPossible l.state step)) c.self.view_is
    (next_possible c.next.result (state_of c.self.inside.tables) c.self.inside.applied (c.self.invariant (ap (λ (l : Living). l.spent) c.self.view_is ∙ alive)) c.next.ensures)

pub returns-clause-sound : goal.returns-clause-sound
returns-clause-sound g c = λ alive.
    subst (λ (l : Living). IsSound l.state) c.self.view_is
    (reached_led (state_of c.self.inside.tables) c.self.inside.applied (c.self.invariant (ap (λ (l : Living). l.spent) c.self.view_is ∙ alive))).sound
